-- The digits of a cell, the cells below it, and the events that they cover.
use Rattle.std.proofs.Common.{◌≡◌, ℕ, zero, suc, ◌+◌, ◌-◌, ◌*◌, ◌/◌, ◌%◌, ◌^◌, ◌<◌, ◌≤◌, Bool, true, false, T, eqb, ◌⊎◌, ◌↔◌, sym, refl, ap, ◌∙◌, subst, ap₂, inl, inr, not-suc-le-zero, mul_assoc, mul_comm, div-lt_iff_lt-mul, pow-suc, arith, lit≤, eqb→eq}
use native.Mathlib.Nat.{zero-div, add-mul-div_right, add-mul-mod_self_right, div-div-eq-div-mul, one-le-pow}
use lib.Count.{count_trailing_zeros}
use Rattle.std.proofs.lemmas.Nat.{pow-add}
use Rattle.std.proofs.lemmas.Bool.{cases_order, cases_eq}
use Rattle.events.specs.Sets.{has, ◌∈◌, set_of}
use Rattle.events.specs.Cells.{digit, agrees, Covers, covers_below, covers, lowest, one_if, count_below, free_in}
use Rattle.events.proofs.SetLaws.{T_true, T_false, false_T, dec_t, T_and, same_mask, subset_le, ∈-set_of, has-set_of, set_of_small}
use Rattle.events.proofs.LowestLaws.{low_is}

pow3_pos : (k : ℕ) → 0 < 3 ^ k
pow3_pos k = one-le-pow k 3 (lit≤ tt)

-- ---- the digits of cell + d 3 ^ i, where digit i of the cell is 0

shifted : (cell i d : ℕ) → (cell + d * 3 ^ i) / 3 ^ i ≡ cell / 3 ^ i + d
shifted cell i d = add-mul-div_right cell d (pow3_pos i)

pub digit_at : (cell i d : ℕ) → digit cell i ≡ 0 → d < 3 → digit (cell + d * 3 ^ i) i ≡ d
digit_at cell i d z l = ap (λ (n : ℕ). n % 3) (shifted cell i d) ∙ omega (arith, z)

digit_below : (cell i d m j : ℕ) → i ≡ suc m + j → digit (cell + d * 3 ^ i) j ≡ digit cell j
digit_below cell i d m j e = ap (λ (n : ℕ). (cell + n) / 3 ^ j % 3) regroup ∙ (ap (λ (n : ℕ). n % 3) (add-mul-div_right cell (d * 3 ^ m * 3) (pow3_pos j)) ∙ add-mul-mod_self_right (cell / 3 ^ j) (d * 3 ^ m) 3)
  where
    regroup : d * 3 ^ i ≡ d * 3 ^ m * 3 * 3 ^ j
    regroup = ap (λ (n : ℕ). d * 3 ^ n) e ∙ (ap (λ (n : ℕ). d * n) (pow-add 3 (suc m) j ∙ ap (λ (n : ℕ). n * 3 ^ j) (pow-suc 3 m)) ∙ (sym (mul_assoc d (3 ^ m * 3) (3 ^ j)) ∙ ap (λ (n : ℕ). n * 3 ^ j) (sym (mul_assoc d (3 ^ m) 3))))

digit_above : (cell i d m j : ℕ) → j ≡ i + suc m → digit cell i ≡ 0 → d < 3 → digit (cell + d * 3 ^ i) j ≡ digit cell j
digit_above cell i d m j e z l = ap (λ (n : ℕ). n % 3) (down (cell + d * 3 ^ i) ∙ (ap (λ (n : ℕ). n / 3 ^ m) third ∙ sym (down cell)))
  where
    down : (n : ℕ) → n / 3 ^ j ≡ n / 3 ^ i / 3 / 3 ^ m
    down n = ap (λ (k : ℕ). n / k) (ap (λ (k : ℕ). 3 ^ k) e ∙ (pow-add 3 i (suc m) ∙ ap (λ (k : ℕ). 3 ^ i * k) (pow-suc 3 m ∙ mul_comm (3 ^ m) 3)))
        ∙ (sym (div-div-eq-div-mul n (3 ^ i) (3 * 3 ^ m)) ∙ sym (div-div-eq-div-mul (n / 3 ^ i) 3 (3 ^ m)))

    third : (cell + d * 3 ^ i) / 3 ^ i / 3 ≡ cell / 3 ^ i / 3
    third = ap (λ (n : ℕ). n / 3) (shifted cell i d) ∙ omega (arith, z)

pub digit_other : (cell i d j : ℕ) → digit cell i ≡ 0 → d < 3 → (j ≡ i → ⊥) → digit (cell + d * 3 ^ i) j ≡ digit cell j
digit_other cell i d j z l ne = go (cases_order j i)
  where
    go : (j ≡ i) ⊎ ((j < i) ⊎ (i < j)) → digit (cell + d * 3 ^ i) j ≡ digit cell j
    go (inl e) = absurd (ne e)
    go (inr (inl h)) = digit_below cell i d (i - suc j) j (omega arith)
    go (inr (inr h)) = digit_above cell i d (j - suc i) j (omega arith) z l

pub cell_below : (cell i d : ℕ) → cell < 729 → i < 6 → digit cell i ≡ 0 → d < 3 → cell + d * 3 ^ i < 729
cell_below cell i d low li z l = subst (λ (n : ℕ). cell + d * 3 ^ i < n) (sym whole) ((div-lt_iff_lt-mul (pow3_pos i)).0 (subst (λ (n : ℕ). n < 3 ^ (5 - i) * 3) (sym (shifted cell i d)) fits))
  where
    whole : 729 ≡ 3 ^ (5 - i) * 3 * 3 ^ i
    whole = ap (λ (n : ℕ). 3 ^ n) six ∙ (pow-add 3 (suc (5 - i)) i ∙ ap (λ (n : ℕ). n * 3 ^ i) (pow-suc 3 (5 - i)))
      where
        six : 6 ≡ suc (5 - i) + i
        six = omega arith

    under : cell / 3 ^ i < 3 ^ (5 - i) * 3
    under = (div-lt_iff_lt-mul (pow3_pos i)).1 (subst (λ (n : ℕ). cell < n) whole low)

    fits : cell / 3 ^ i + d < 3 ^ (5 - i) * 3
    fits = omega (arith, z, under)

-- ---- the events covered

pub covers_up : (cell i d e : ℕ) → i < 6 → digit cell i ≡ 0 → d < 3 → Covers (cell + d * 3 ^ i) e → Covers cell e
covers_up cell i d e li z l c j lj = go (cases_eq j i)
  where
    go : (j ≡ i) ⊎ (j ≡ i → ⊥) → T (agrees (digit cell j) (has e j))
    go (inl p) = subst (λ (n : ℕ). T (agrees n (has e j))) (sym (ap (digit cell) p ∙ z)) tt
    go (inr ne) = subst (λ (n : ℕ). T (agrees n (has e j))) (digit_other cell i d j z l ne) (c j lj)

pub covers-line : (cell i d e : ℕ) → i < 6 → digit cell i ≡ 0 → d < 3 → Covers (cell + d * 3 ^ i) e → T (agrees d (has e i))
covers-line cell i d e li z l c = subst (λ (n : ℕ). T (agrees n (has e i))) (digit_at cell i d z l) (c i li)

pub covers_down : (cell i d e : ℕ) → digit cell i ≡ 0 → d < 3 → Covers cell e → T (agrees d (has e i)) → Covers (cell + d * 3 ^ i) e
covers_down cell i d e z l c h j lj = go (cases_eq j i)
  where
    go : (j ≡ i) ⊎ (j ≡ i → ⊥) → T (agrees (digit (cell + d * 3 ^ i) j) (has e j))
    go (inl p) = subst (λ (k : ℕ). T (agrees (digit (cell + d * 3 ^ i) k) (has e k))) (sym p) (subst (λ (n : ℕ). T (agrees n (has e i))) (sym (digit_at cell i d z l)) h)
    go (inr ne) = subst (λ (n : ℕ). T (agrees n (has e j))) (sym (digit_other cell i d j z l ne)) (c j lj)

pub covers_all : (e : ℕ) → Covers 0 e
covers_all e j lj = subst (λ (n : ℕ). T (agrees (n % 3) (has e j))) (sym (zero-div (3 ^ j))) tt

-- ---- counts

pub count_same : (n : ℕ) (f g : ℕ → Bool) → ((j : ℕ) → j < n → f j ≡ g j) → count_below n f ≡ count_below n g
count_same zero f g h = refl
count_same (suc n) f g h = ap₂ (λ (x y : ℕ). x + y) (count_same n f g (λ j l. h j (omega arith))) (ap one_if (h n (omega arith)))

count_less_step : (n : ℕ) (f g : ℕ → Bool) (i : ℕ) → i < suc n → f i ≡ true → g i ≡ false → ((j : ℕ) → (j ≡ i → ⊥) → g j ≡ f j)
    → (i < n → suc (count_below n g) ≡ count_below n f) → (n ≡ i) ⊎ (n ≡ i → ⊥) → suc (count_below (suc n) g) ≡ count_below (suc n) f
count_less_step n f g i l on off same ih (inl e) = omega (arith, ap one_if (ap f e ∙ on), ap one_if (ap g e ∙ off), count_same n g f (λ j lj. same j (λ p. let no_way : ⊥ = omega arith in no_way)))
count_less_step n f g i l on off same ih (inr ne) = omega (arith, ih (omega arith), ap one_if (same n ne))

-- one less, where the test passes at one number less
pub count_less : (n : ℕ) (f g : ℕ → Bool) (i : ℕ) → i < n → f i ≡ true → g i ≡ false → ((j : ℕ) → (j ≡ i → ⊥) → g j ≡ f j) → suc (count_below n g) ≡ count_below n f
count_less zero f g i l on off same = absurd (not-suc-le-zero l)
count_less (suc n) f g i l on off same = count_less_step n f g i l on off same (λ l'. count_less n f g i l' on off same) (cases_eq n i)

pub count_none : (n : ℕ) (f : ℕ → Bool) → count_below n f ≡ 0 → (j : ℕ) → j < n → f j ≡ false
count_none zero f z j l = absurd (not-suc-le-zero l)
count_none (suc n) f z j l = at (cases_eq j n) (count_none n f (omega arith))
  where
    zero_if : (b : Bool) → one_if b ≡ 0 → b ≡ false
    zero_if true p = absurd (let no_way : ⊥ = omega arith in no_way)
    zero_if false p = refl

    at : (j ≡ n) ⊎ (j ≡ n → ⊥) → ((k : ℕ) → k < n → f k ≡ false) → f j ≡ false
    at (inl e) ih = ap f e ∙ zero_if (f n) (omega arith)
    at (inr ne) ih = ih j (omega arith)

-- a cell with one more line fixed has one free line less
pub free_below : (cell i d : ℕ) → i < 6 → digit cell i ≡ 0 → d < 3 → 0 < d → suc (free_in (cell + d * 3 ^ i)) ≡ free_in cell
unfolding free_in
free_below cell i d li z l pos = count_less 6 (λ j. eqb (digit cell j) 0) (λ j. eqb (digit (cell + d * 3 ^ i) j) 0) i li
    (T_true (eqb (digit cell i) 0) (subst (λ (n : ℕ). T (eqb n 0)) (sym z) tt))
    (T_false (eqb (digit (cell + d * 3 ^ i) i) 0) (λ t. let p = eqb→eq (digit (cell + d * 3 ^ i) i) 0 t in let q = digit_at cell i d z l in let no_way : ⊥ = omega (arith, p, q) in no_way))
    (λ j ne. ap (λ (n : ℕ). eqb n 0) (digit_other cell i d j z l ne))

pub count_le : (n : ℕ) (f : ℕ → Bool) → count_below n f ≤ n
count_le zero f = omega arith
count_le (suc n) f = omega (arith, count_le n f, bit (f n))
  where
    bit : (b : Bool) → one_if b ≤ 1
    bit true = omega arith
    bit false = omega arith

pub count_zero : (n : ℕ) (f : ℕ → Bool) → ((j : ℕ) → j < n → f j ≡ false) → count_below n f ≡ 0
count_zero zero f h = refl
count_zero (suc n) f h = ap₂ (λ (x y : ℕ). x + y) (count_zero n f (λ j l. h j (omega arith))) (ap one_if (h n (omega arith)))

-- a cell has at most six free lines, cell 0 has six, and a cell whose lines are all fixed has none
pub free_le : (cell : ℕ) → free_in cell ≤ 6
unfolding free_in
free_le cell = count_le 6 (λ j. eqb (digit cell j) 0)

pub free_whole : free_in 0 ≡ 6
unfolding free_in
free_whole = refl

pub free_none : (cell : ℕ) → ((j : ℕ) → j < 6 → digit cell j ≡ 0 → ⊥) → free_in cell ≡ 0
unfolding free_in
free_none cell none = count_zero 6 (λ j. eqb (digit cell j) 0) (λ j l. T_false (eqb (digit cell j) 0) (λ t. none j l (eqb→eq (digit cell j) 0 t)))

-- ---- a cell with no free line covers one event

pub single : (cell a b : ℕ) → free_in cell ≡ 0 → a < 64 → b < 64 → Covers cell a → Covers cell b → a ≡ b
unfolding free_in
single cell a b none la lb ca cb = same_mask 6 a b la lb same
  where
    fixed : (j : ℕ) → j < 6 → digit cell j ≡ 0 → ⊥
    fixed j l z = false_T (eqb (digit cell j) 0) (count_none 6 (λ i. eqb (digit cell i) 0) none j l) (subst (λ (n : ℕ). T (eqb n 0)) (sym z) tt)

    agree : (d : ℕ) (x y : Bool) → (d ≡ 0 → ⊥) → T (agrees d x) → T (agrees d y) → x ≡ y
    agree zero x y nz hx hy = absurd (nz refl)
    agree (suc zero) x y nz hx hy = T_true x hx ∙ sym (T_true y hy)
    agree (suc (suc k)) true y nz hx hy = absurd hx
    agree (suc (suc k)) false true nz hx hy = absurd hy
    agree (suc (suc k)) false false nz hx hy = refl

    same : (j : ℕ) → j < 6 → has a j ≡ has b j
    same j l = agree (digit cell j) (has a j) (has b j) (fixed j l) (ca j l) (cb j l)

-- ---- the test of covering

covers_below_lem : (n cell e : ℕ) → T (covers_below n cell e) ↔ ((i : ℕ) → i < n → T (agrees (digit cell i) (has e i)))
covers_below_lem zero cell e = ((λ h i l. absurd (not-suc-le-zero l)), (λ h. tt))
covers_below_lem (suc n) cell e = (
  (λ h i l. at ((T_and (agrees (digit cell n) (has e n)) (covers_below n cell e)).0 h) i l (covers_below_lem n cell e).0 (cases_eq i n)),
  (λ h. (T_and (agrees (digit cell n) (has e n)) (covers_below n cell e)).1 (h n (omega arith), (covers_below_lem n cell e).1 (λ i l. h i (omega arith)))),
)
  where
    at : T (agrees (digit cell n) (has e n)) × T (covers_below n cell e) → (i : ℕ) → i < suc n
        → (T (covers_below n cell e) → (i : ℕ) → i < n → T (agrees (digit cell i) (has e i))) → (i ≡ n) ⊎ (i ≡ n → ⊥) → T (agrees (digit cell i) (has e i))
    at h i l ih (inl p) = subst (λ (k : ℕ). T (agrees (digit cell k) (has e k))) (sym p) h.0
    at h i l ih (inr ne) = ih h.1 i (omega arith)

pub covers_is : (cell e : ℕ) → T (covers cell e) ↔ Covers cell e
unfolding covers
covers_is cell e = covers_below_lem 6 cell e

pub covers_decided : (cell e : ℕ) → Covers cell e ⊎ (Covers cell e → ⊥)
covers_decided cell e = go (dec_t (covers cell e))
  where
    go : T (covers cell e) ⊎ (T (covers cell e) → ⊥) → Covers cell e ⊎ (Covers cell e → ⊥)
    go (inl h) = inl ((covers_is cell e).0 h)
    go (inr n) = inr (λ h. n ((covers_is cell e).1 h))

-- ---- the lowest event of a cell

pub lowest_small : (cell : ℕ) → lowest cell < 64
unfolding lowest
lowest_small cell = set_of_small 6 (λ j. eqb (digit cell j) 1)

pub lowest-covered : (cell : ℕ) → Covers cell (lowest cell)
unfolding lowest
lowest-covered cell j l = subst (λ (b : Bool). T (agrees (digit cell j) b)) (sym (has-set_of 6 (λ i. eqb (digit cell i) 1) j l)) (agree (digit cell j) (omega arith))
  where
    agree : (d : ℕ) → d < 3 → T (agrees d (eqb d 1))
    agree zero l = tt
    agree (suc zero) l = tt
    agree (suc (suc zero)) l = tt
    agree (suc (suc (suc k))) l = absurd (let no_way : ⊥ = omega arith in no_way)

pub lowest_least : (cell e : ℕ) → Covers cell e → lowest cell ≤ e
unfolding lowest
lowest_least cell e c = subset_le 6 (set_of 6 (λ j. eqb (digit cell j) 1)) e (set_of_small 6 (λ j. eqb (digit cell j) 1)) inside
  where
    wanted : (d : ℕ) (on : Bool) → d ≡ 1 → T (agrees d on) → T on
    wanted d on p t = subst (λ (n : ℕ). T (agrees n on)) p t

    inside : (k : ℕ) → k ∈ set_of 6 (λ j. eqb (digit cell j) 1) → k ∈ e
    inside k h = let (l, one) = (∈-set_of 6 (λ j. eqb (digit cell j) 1) k).0 h in
        wanted (digit cell k) (has e k) (eqb→eq (digit cell k) 1 one) (c k l)

-- a number of 64 bits with just the events that a cell covers has the cell's lowest event as its lowest bit
pub lowest_zeros : (cell set : ℕ) → set < 2 ^ 64 → ((e : ℕ) → e < 64 → has set e ≡ covers cell e) → count_trailing_zeros 64 set ≡ lowest cell
lowest_zeros cell set h is = low_is 64 set (lowest cell) h
    (is (lowest cell) (lowest_small cell) ∙ T_true (covers cell (lowest cell)) ((covers_is cell (lowest cell)).1 (lowest-covered cell)))
    (λ e l. is e (omega (arith, l, lowest_small cell)) ∙ T_false (covers cell e) (λ t. under e l (lowest_least cell e ((covers_is cell e).0 t))))
  where
    under : (e : ℕ) → e < lowest cell → lowest cell ≤ e → ⊥
    under e l m = omega arith
