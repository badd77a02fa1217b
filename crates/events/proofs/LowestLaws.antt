-- The lowest member of a set, which `trailing_zeros` gives, and the set without it: for loops that take a set's members one by one.
use Rattle.std.proofs.Common.{◌≡◌, ℕ, zero, suc, ◌-◌, ◌/◌, ◌%◌, ◌^◌, ◌<◌, Bool, true, false, not, ◌&&◌, eqb, ◌⊎◌, sym, refl, ap, ◌∙◌, ap₂, inl, inr, le_of_suc-le-suc, not-suc-le-zero, mod-lt, zero-lt-suc, eq-zero-or-pos, arith, eq-eqb}
use lib.Dec.{eqb-suc-zero, eqb-suc-suc}
use lib.Bits.{bit_and}
use lib.Count.{count_trailing_zeros, under}
use Rattle.std.proofs.lemmas.Bool.{cases_order}
use Rattle.events.specs.Sets.{has}
use Rattle.events.proofs.SetLaws.{has_low, has_suc, has-and, has_none, half_lt, true_T, false_T}

two_pos : 0 < 2
two_pos = zero-lt-suc 1

-- the lowest member is one
pub low_member : (n x : ℕ) → 0 < x → x < 2 ^ n → has x (count_trailing_zeros n x) ≡ true
unfolding count_trailing_zeros
low_member zero x p h = absurd (omega arith)
low_member (suc n) x p h = go (x % 2) refl (λ q. low_member n (x / 2) q (half_lt n x h))
  where
    go : (d : ℕ) → x % 2 ≡ d → (0 < x / 2 → has (x / 2) (count_trailing_zeros n (x / 2)) ≡ true) → has x (under d (count_trailing_zeros n (x / 2))) ≡ true
    go zero q ih = has_suc x (count_trailing_zeros n (x / 2)) ∙ ih (omega arith)
    go (suc zero) q ih = has_low x ∙ ap (λ (y : ℕ). eqb y 1) q
    go (suc (suc d)) q ih = absurd (omega (arith, mod-lt x two_pos))

-- and none is lower
pub low_least : (n x k : ℕ) → k < count_trailing_zeros n x → has x k ≡ false
unfolding count_trailing_zeros
low_least zero x k l = absurd (not-suc-le-zero l)
low_least (suc n) x k l = go (x % 2) refl k l (λ j m. low_least n (x / 2) j m)
  where
    go : (d : ℕ) → x % 2 ≡ d → (k : ℕ) → k < under d (count_trailing_zeros n (x / 2)) → ((j : ℕ) → j < count_trailing_zeros n (x / 2) → has (x / 2) j ≡ false) → has x k ≡ false
    go zero q zero l ih = has_low x ∙ ap (λ (y : ℕ). eqb y 1) q
    go zero q (suc j) l ih = has_suc x j ∙ ih j (le_of_suc-le-suc l)
    go (suc d) q k l ih = absurd (not-suc-le-zero l)

-- the empty set of n bits has n
pub low_none : (n : ℕ) → count_trailing_zeros n 0 ≡ n
unfolding count_trailing_zeros
low_none zero = refl
low_none (suc n) = ap suc (low_none n)

-- a member with no member below it is the lowest
pub low_is : (n x k : ℕ) → x < 2 ^ n → has x k ≡ true → ((j : ℕ) → j < k → has x j ≡ false) → count_trailing_zeros n x ≡ k
low_is n x k h t none = go (cases_order (count_trailing_zeros n x) k)
  where
    some : 0 < x
    some = pos (eq-zero-or-pos x)
      where
        pos : (x ≡ 0) ⊎ (0 < x) → 0 < x
        pos (inl e) = absurd (false_T (has x k) (ap (λ (y : ℕ). has y k) e ∙ has_none k) (true_T (has x k) t))
        pos (inr p) = p

    go : (count_trailing_zeros n x ≡ k) ⊎ ((count_trailing_zeros n x < k) ⊎ (k < count_trailing_zeros n x)) → count_trailing_zeros n x ≡ k
    go (inl e) = e
    go (inr (inl l)) = absurd (false_T (has x (count_trailing_zeros n x)) (none (count_trailing_zeros n x) l) (true_T (has x (count_trailing_zeros n x)) (low_member n x some h)))
    go (inr (inr l)) = absurd (false_T (has x k) (low_least n x k l) (true_T (has x k) t))

and_self : (p : Bool) → (p && p) ≡ (p && true)
and_self true = refl
and_self false = refl

-- `x & x - 1` is the set without its lowest member
pub without : (n x k : ℕ) → 0 < x → x < 2 ^ n → has (bit_and x (x - 1)) k ≡ (has x k && not (eqb k (count_trailing_zeros n x)))
unfolding count_trailing_zeros
without zero x k p h = absurd (omega arith)
without (suc n) x k p h =
    has-and x (x - 1) k
    ∙ go (x % 2) refl k (λ j q. sym (has-and (x / 2) (x / 2 - 1) j) ∙ without n (x / 2) j q (half_lt n x h))
  where
    go : (d : ℕ) → x % 2 ≡ d → (k : ℕ)
        → ((j : ℕ) → 0 < x / 2 → (has (x / 2) j && has (x / 2 - 1) j) ≡ (has (x / 2) j && not (eqb j (count_trailing_zeros n (x / 2)))))
        → (has x k && has (x - 1) k) ≡ (has x k && not (eqb k (under d (count_trailing_zeros n (x / 2)))))
    go zero q zero ih =
        let f : has x 0 ≡ false = has_low x ∙ ap (λ (y : ℕ). eqb y 1) q in
        ap (λ (b : Bool). b && has (x - 1) 0) f ∙ sym (ap (λ (b : Bool). b && not (eqb 0 (suc (count_trailing_zeros n (x / 2))))) f)
    go zero q (suc j) ih =
        let half : (x - 1) / 2 ≡ x / 2 - 1 = omega arith in
        ap₂ (λ (a b : Bool). a && b) (has_suc x j) (has_suc (x - 1) j ∙ ap (λ (y : ℕ). has y j) half)
        ∙ ih j (omega arith)
        ∙ ap₂ (λ (a b : Bool). a && not b) (sym (has_suc x j)) (sym (eqb-suc-suc j (count_trailing_zeros n (x / 2))))
    go (suc zero) q zero ih =
        let even : (x - 1) % 2 ≡ 0 = omega arith in
        ap (λ (b : Bool). has x 0 && b) (has_low (x - 1) ∙ ap (λ (y : ℕ). eqb y 1) even)
        ∙ ap (λ (b : Bool). has x 0 && not b) (sym (eq-eqb 0 0 refl))
    go (suc zero) q (suc j) ih =
        let half : (x - 1) / 2 ≡ x / 2 = omega arith in
        ap (λ (b : Bool). has x (suc j) && b) (has_suc (x - 1) j ∙ ap (λ (y : ℕ). has y j) half ∙ sym (has_suc x j))
        ∙ and_self (has x (suc j))
        ∙ ap (λ (b : Bool). has x (suc j) && not b) (sym (eqb-suc-zero j))
    go (suc (suc d)) q k ih = absurd (omega (arith, mod-lt x two_pos))
