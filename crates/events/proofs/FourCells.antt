-- Which events four cells cover, computed at each of the 64 events.
use Rattle.std.proofs.Common.{◌≡◌, ℕ, zero, suc, ◌+◌, ◌%◌, ◌<◌, Bool, true, false, ◌&&◌, T, eqb, ◌↔◌, sym, refl, ◌∙◌, subst, le_of_suc-le-suc, not-suc-le-zero, add-zero, add-suc, suc-add, zero-add, eqb→eq}
use lib.Dec.{eqb_refl}
use Rattle.events.specs.Sets.{has}
use Rattle.events.specs.Cells.{Covers, covers}
use Rattle.events.specs.Laws.{FourCells}
use Rattle.events.proofs.SetLaws.{T_and}
use Rattle.events.proofs.CellLaws.{covers_is, covers_all}

-- two tests with one answer
abbrev same : Bool → Bool → Bool
same true b = b
same false true = false
same false false = true

same_eq : (a b : Bool) → T (same a b) → a ≡ b
same_eq true true t = refl
same_eq true false t = absurd t
same_eq false true t = absurd t
same_eq false false t = refl

-- the test f passes at i, i + 1, .. , n of them
abbrev upto : (ℕ → Bool) → ℕ → ℕ → Bool
upto f i zero = true
upto f i (suc n) = f i && upto f (suc i) n

upto_at : (f : ℕ → Bool) (n i : ℕ) → T (upto f i n) → (k : ℕ) → k < n → T (f (i + k))
upto_at f zero i t k h = absurd (not-suc-le-zero h)
upto_at f (suc n) i t zero h = subst (λ (m : ℕ). T (f m)) (sym (add-zero i)) ((T_and (f i) (upto f (suc i) n)).0 t).0
upto_at f (suc n) i t (suc k) h =
    subst (λ (m : ℕ). T (f m)) (suc-add i k ∙ sym (add-suc i k))
    (upto_at f n (suc i) ((T_and (f i) (upto f (suc i) n)).0 t).1 k (le_of_suc-le-suc h))

-- what a cell covers, by a test that agrees with `covers` at each event
covered_as : (cell : ℕ) (f : ℕ → Bool) → T (upto (λ e. same (covers cell e) (f e)) 0 64) → (e : ℕ) → e < 64 → Covers cell e ↔ T (f e)
covered_as cell f t e l = (
  (λ c. subst T is ((covers_is cell e).1 c)),
  (λ h. (covers_is cell e).0 (subst T (sym is) h)),
)
  where
    is : covers cell e ≡ f e
    is = same_eq (covers cell e) (f e) (subst (λ (m : ℕ). T (same (covers cell m) (f m))) (zero-add e) (upto_at (λ m. same (covers cell m) (f m)) 64 0 t e l))

-- a test of equality
equal_is : (a b : ℕ) (A : Type 0) → A ↔ T (eqb a b) → A ↔ (a ≡ b)
equal_is a b A is = ((λ x. eqb→eq a b (is.0 x)), (λ e. is.1 (subst (λ (n : ℕ). T (eqb a n)) e (eqb_refl a))))

pub four_cells : FourCells
unfolding covers has
four_cells e l = (
  covers_all e,
  equal_is (e % 2) 1 (Covers 1 e) (covered_as 1 (λ k. eqb (k % 2) 1) tt e l),
  equal_is e 63 (Covers 364 e) (covered_as 364 (λ k. eqb k 63) tt e l),
  equal_is e 0 (Covers 728 e) (covered_as 728 (λ k. eqb k 0) tt e l),
)
