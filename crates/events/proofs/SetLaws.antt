-- The laws of sets: which members the operators leave, equal members make equal sets, and a set of more members has more ones.
-- Each law is proved of the test `has`, as an equation between Bools; the laws of membership follow from those.
use Rattle.std.proofs.Common.{◌≡◌, ℕ, zero, suc, ◌-◌, ◌*◌, ◌/◌, ◌%◌, ◌^◌, ◌<◌, ◌≤◌, Bool, true, false, cond, ◌&&◌, ◌||◌, T, eqb, ◌⊎◌, ◌↔◌, sym, refl, ap, ◌∙◌, subst, inl, inr, le_refl, le_of_suc-le-suc, not-suc-le-zero, mod-lt, zero-lt-suc, eq-zero-or-pos, eq-or-lt_of_le, pow-suc, div-one, one-add, arith, eqb→eq, eq-eqb, ne_eqb}
use native.Mathlib.Decide.{dec_lt}
use lib.Dec.{eqb_refl, eqb-zero-suc, eqb-suc-zero, eqb-suc-suc}
use lib.Bits.{bit_and, bit_or, and_mod, or_mod, and_shr, or_shr, and_le_l, or_lt, and_mask}
use lib.Count.{ones, ones_step, ones-le}
use Rattle.std.proofs.lemmas.Nat.{shr-shr, pow_pos, pow_below, one_shl}
use Rattle.std.proofs.lemmas.Bool.{cases_eq}
use Rattle.events.specs.Sets.{has, ◌∈◌, Subset, set_of, union_over}

-- ---- a test and what it says

pub T_true : (b : Bool) → T b → b ≡ true
T_true true t = refl
T_true false t = absurd t

pub T_false : (b : Bool) → (T b → ⊥) → b ≡ false
T_false true n = absurd (n tt)
T_false false n = refl

pub true_T : (b : Bool) → b ≡ true → T b
true_T b e = subst T (sym e) tt

pub false_T : (b : Bool) → b ≡ false → T b → ⊥
false_T b e t = subst T e t

pub dec_t : (b : Bool) → T b ⊎ (T b → ⊥)
dec_t true = inl tt
dec_t false = inr (λ t. t)

pub TOr : (p q : Bool) → T (p || q) ↔ (T p ⊎ T q)
TOr true q = ((λ t. inl tt), (λ s. tt))
TOr false q = ((λ t. inr t), (λ s. right s))
  where
    right : ⊥ ⊎ T q → T q
    right (inl n) = absurd n
    right (inr t) = t

pub T_and : (p q : Bool) → T (p && q) ↔ (T p × T q)
T_and true q = ((λ t. (tt, t)), (λ (s, t). t))
T_and false q = ((λ t. absurd t), (λ (s, t). s))

-- ---- a bit by its place: the lowest, and the bits of the half

pub has_low : (x : ℕ) → has x 0 ≡ eqb (x % 2) 1
unfolding has
has_low x = ap (λ (y : ℕ). eqb (y % 2) 1) (div-one x)

pub has_suc : (x k : ℕ) → has x (suc k) ≡ has (x / 2) k
unfolding has
has_suc x k = ap (λ (y : ℕ). eqb (y % 2) 1) (ap (λ (j : ℕ). x / 2 ^ j) (sym (one-add k)) ∙ sym (shr-shr x 1 k))

-- ---- two binary digits

big : {A : Type 0} {n : ℕ} → suc (suc n) < 2 → A
big h = absurd (not-suc-le-zero (le_of_suc-le-suc (le_of_suc-le-suc h)))

digit_or : (x y : ℕ) → x < 2 → y < 2 → eqb (bit_or x y) 1 ≡ (eqb x 1 || eqb y 1)
digit_or zero y hx hy = refl
digit_or (suc zero) zero hx hy = refl
digit_or (suc zero) (suc zero) hx hy = refl
digit_or (suc zero) (suc (suc y)) hx hy = big hy
digit_or (suc (suc x)) y hx hy = big hx

digit_and : (x y : ℕ) → x < 2 → y < 2 → eqb (bit_and x y) 1 ≡ (eqb x 1 && eqb y 1)
digit_and zero y hx hy = refl
digit_and (suc zero) zero hx hy = refl
digit_and (suc zero) (suc zero) hx hy = refl
digit_and (suc zero) (suc (suc y)) hx hy = big hy
digit_and (suc (suc x)) y hx hy = big hx

digit_eq : (x y : ℕ) → x < 2 → y < 2 → eqb x 1 ≡ eqb y 1 → x ≡ y
digit_eq zero zero hx hy e = refl
digit_eq zero (suc zero) hx hy e = absurd (subst T (sym e) tt)
digit_eq zero (suc (suc y)) hx hy e = big hy
digit_eq (suc zero) zero hx hy e = absurd (subst T e tt)
digit_eq (suc zero) (suc zero) hx hy e = refl
digit_eq (suc zero) (suc (suc y)) hx hy e = big hy
digit_eq (suc (suc x)) y hx hy e = big hx

digit_le : (x y : ℕ) → x < 2 → (T (eqb x 1) → T (eqb y 1)) → x ≤ y
digit_le zero y h f = omega arith
digit_le (suc zero) y h f = omega (arith, eqb→eq y 1 (f tt))
digit_le (suc (suc x)) y h f = big h

-- ---- the operators

two_pos : 0 < 2
two_pos = zero-lt-suc 1

pub has-or : (a b k : ℕ) → has (bit_or a b) k ≡ (has a k || has b k)
unfolding has
has-or a b k =
    ap (λ (y : ℕ). eqb (y % 2) 1) (or_shr a b k) ∙ ap (λ (y : ℕ). eqb y 1) (or_mod (a / 2 ^ k) (b / 2 ^ k) 1)
    ∙ digit_or (a / 2 ^ k % 2) (b / 2 ^ k % 2) (mod-lt (a / 2 ^ k) two_pos) (mod-lt (b / 2 ^ k) two_pos)

pub has-and : (a b k : ℕ) → has (bit_and a b) k ≡ (has a k && has b k)
unfolding has
has-and a b k =
    ap (λ (y : ℕ). eqb (y % 2) 1) (and_shr a b k) ∙ ap (λ (y : ℕ). eqb y 1) (and_mod (a / 2 ^ k) (b / 2 ^ k) 1)
    ∙ digit_and (a / 2 ^ k % 2) (b / 2 ^ k % 2) (mod-lt (a / 2 ^ k) two_pos) (mod-lt (b / 2 ^ k) two_pos)

-- ---- the empty set, a set of one member, and the set of all numbers below n

pub has_none : (k : ℕ) → has 0 k ≡ false
has_none zero = has_low 0
has_none (suc k) = has_suc 0 k ∙ has_none k

half_pow : (j : ℕ) → 2 ^ suc j / 2 ≡ 2 ^ j
half_pow j = rw pow-suc (omega arith)

even_pow : (j : ℕ) → 2 ^ suc j % 2 ≡ 0
even_pow j = rw pow-suc (omega arith)

pub has_one : (j k : ℕ) → has (2 ^ j) k ≡ eqb k j
has_one zero zero = has_low 1
has_one zero (suc k) = has_suc 1 k ∙ has_none k ∙ sym (eqb-suc-zero k)
has_one (suc j) zero = has_low (2 ^ suc j) ∙ ap (λ (y : ℕ). eqb y 1) (even_pow j) ∙ sym (eqb-zero-suc j)
has_one (suc j) (suc k) = has_suc (2 ^ suc j) k ∙ ap (λ (y : ℕ). has y k) (half_pow j) ∙ has_one j k ∙ sym (eqb-suc-suc k j)

half_ones : (n : ℕ) → (2 ^ suc n - 1) / 2 ≡ 2 ^ n - 1
half_ones n = rw pow-suc (omega (arith, pow_pos n))

odd_ones : (n : ℕ) → (2 ^ suc n - 1) % 2 ≡ 1
odd_ones n = rw pow-suc (omega (arith, pow_pos n))

pub has_every : (n k : ℕ) → k < n → has (2 ^ n - 1) k ≡ true
has_every zero k h = absurd (not-suc-le-zero h)
has_every (suc n) zero h = has_low (2 ^ suc n - 1) ∙ ap (λ (y : ℕ). eqb y 1) (odd_ones n)
has_every (suc n) (suc k) h = has_suc (2 ^ suc n - 1) k ∙ ap (λ (y : ℕ). has y k) (half_ones n) ∙ has_every n k (le_of_suc-le-suc h)

pub every_small : (n : ℕ) → 2 ^ n - 1 < 2 ^ n
every_small n = omega (arith, pow_pos n)

-- ---- widths, and equality

pub half_lt : (n x : ℕ) → x < 2 ^ suc n → x / 2 < 2 ^ n
half_lt n x h = omega (arith, rw pow-suc at h)

-- no bit at or above the width
pub has_above : (n x k : ℕ) → x < 2 ^ n → n ≤ k → has x k ≡ false
has_above zero x k h l = ap (λ (y : ℕ). has y k) (omega arith) ∙ has_none k
has_above (suc n) x zero h l = absurd (not-suc-le-zero l)
has_above (suc n) x (suc k) h l = has_suc x k ∙ has_above n (x / 2) k (half_lt n x h) (le_of_suc-le-suc l)

-- a member is below the width
pub below_width : (n x k : ℕ) → x < 2 ^ n → has x k ≡ true → k < n
below_width n x k h t = go (dec_lt k n)
  where
    go : Dec (k < n) → k < n
    go (yes l) = l
    go (no l) = absurd (false_T (has x k) (has_above n x k h (omega arith)) (true_T (has x k) t))

-- equal bits, equal sets
pub same_mask : (n a b : ℕ) → a < 2 ^ n → b < 2 ^ n → ((k : ℕ) → k < n → has a k ≡ has b k) → a ≡ b
same_mask zero a b ha hb same = omega arith
same_mask (suc n) a b ha hb same =
    let hi : a / 2 ≡ b / 2 =
    same_mask n (a / 2) (b / 2) (half_lt n a ha) (half_lt n b hb)
    (λ k h. sym (has_suc a k) ∙ same (suc k) (omega arith) ∙ has_suc b k) in
    let lo : a % 2 ≡ b % 2 =
    digit_eq (a % 2) (b % 2) (mod-lt a two_pos) (mod-lt b two_pos) (sym (has_low a) ∙ same 0 (omega arith) ∙ has_low b) in
    omega arith

-- a set with no bit is 0
pub no_bits : (n x : ℕ) → x < 2 ^ n → ((k : ℕ) → k < n → has x k ≡ false) → x ≡ 0
no_bits n x h none = same_mask n x 0 h (pow_pos n) (λ k l. none k l ∙ sym (has_none k))

-- a set that is not 0 has a member
pub member : (n x : ℕ) → x < 2 ^ n → 0 < x → (k : ℕ) × (k < n) × (has x k ≡ true)
member zero x h p = absurd (omega arith)
member (suc n) x h p = go (x % 2) refl (λ q. member n (x / 2) (half_lt n x h) q)
  where
    go : (d : ℕ) → x % 2 ≡ d → (0 < x / 2 → (k : ℕ) × (k < n) × (has (x / 2) k ≡ true)) → (k : ℕ) × (k < suc n) × (has x k ≡ true)
    go zero q ih =
        let m = ih (omega arith) in
        (suc m.0, omega (arith, m.1), has_suc x m.0 ∙ m.2)
    go (suc zero) q ih = (0, omega arith, has_low x ∙ ap (λ (y : ℕ). eqb y 1) q)
    go (suc (suc d)) q ih = absurd (omega (arith, mod-lt x two_pos))

-- ---- the same, of membership

pub dec∈ : (k set : ℕ) → (k ∈ set) ⊎ (k ∈ set → ⊥)
dec∈ k set = dec_t (has set k)

pub ∈-or : (k a b : ℕ) → (k ∈ bit_or a b) ↔ ((k ∈ a) ⊎ (k ∈ b))
∈-or k a b = subst (λ (p : Bool). T p ↔ ((k ∈ a) ⊎ (k ∈ b))) (sym (has-or a b k)) (TOr (has a k) (has b k))

pub ∈-and : (k a b : ℕ) → (k ∈ bit_and a b) ↔ ((k ∈ a) × (k ∈ b))
∈-and k a b = subst (λ (p : Bool). T p ↔ ((k ∈ a) × (k ∈ b))) (sym (has-and a b k)) (T_and (has a k) (has b k))

pub ∈_none : (k : ℕ) → k ∈ 0 → ⊥
∈_none k = false_T (has 0 k) (has_none k)

pub ∈_one : (k : ℕ) → k ∈ 2 ^ k
∈_one k = subst T (sym (has_one k k)) (eqb_refl k)

pub ∈_one_is : (k j : ℕ) → k ∈ 2 ^ j → k ≡ j
∈_one_is k j t = eqb→eq k j (subst T (has_one j k) t)

pub ∈_every : (n k : ℕ) → k < n → k ∈ 2 ^ n - 1
∈_every n k h = true_T (has (2 ^ n - 1) k) (has_every n k h)

pub ∈_below : (n k set : ℕ) → set < 2 ^ n → k ∈ set → k < n
∈_below n k set h t = below_width n set k h (T_true (has set k) t)

-- a set that is not 0 has a member
pub ∈_member : (n x : ℕ) → x < 2 ^ n → 0 < x → (k : ℕ) × (k < n) × (k ∈ x)
∈_member n x h p = let (k, l, t) = member n x h p in (k, l, true_T (has x k) t)

-- sets with the same members are equal
pub same_members : (n a b : ℕ) → a < 2 ^ n → b < 2 ^ n → ((k : ℕ) → (k ∈ a) ↔ (k ∈ b)) → a ≡ b
same_members n a b ha hb same = same_mask n a b ha hb (λ k l. go k (dec∈ k a))
  where
    go : (k : ℕ) → (k ∈ a) ⊎ (k ∈ a → ⊥) → has a k ≡ has b k
    go k (inl h) = T_true (has a k) h ∙ sym (T_true (has b k) ((same k).0 h))
    go k (inr n) = T_false (has a k) n ∙ sym (T_false (has b k) (λ h. n ((same k).1 h)))

-- a set with no member is 0
pub no_member : (n set : ℕ) → set < 2 ^ n → ((k : ℕ) → k ∈ set → ⊥) → set ≡ 0
no_member n set h none = no_bits n set h (λ k l. T_false (has set k) (none k))

-- r is a member where the set has something in common with r alone
pub and_one : (set r : ℕ) → (r ∈ set) ↔ (bit_and set (2 ^ r) ≡ 0 → ⊥)
and_one set r = ((λ h z. ∈_none r (subst (λ (n : ℕ). r ∈ n) z ((∈-and r set (2 ^ r)).1 (h, ∈_one r)))), (λ some. back some (dec∈ r set)))
  where
    low : bit_and set (2 ^ r) < 2 ^ suc r
    low = omega (arith, lib.Bits.and_le_r set (2 ^ r), pow_below r (suc r) (le_refl (suc r)))

    only : (r ∈ set → ⊥) → (k : ℕ) → k ∈ bit_and set (2 ^ r) → ⊥
    only out k h = let (a, b) = (∈-and k set (2 ^ r)).0 h in out (subst (λ (n : ℕ). n ∈ set) (∈_one_is k r b) a)

    back : (bit_and set (2 ^ r) ≡ 0 → ⊥) → (r ∈ set) ⊎ (r ∈ set → ⊥) → r ∈ set
    back some (inl h) = h
    back some (inr out) = absurd (some (no_member (suc r) (bit_and set (2 ^ r)) low (only out)))

-- ---- one set in another

-- of the tests
pub subset_has : (a b : ℕ) → Subset a b → (k : ℕ) → has a k ≡ true → has b k ≡ true
subset_has a b s k h = T_true (has b k) (s k (true_T (has a k) h))

pub has_subset : (a b : ℕ) → ((k : ℕ) → has a k ≡ true → has b k ≡ true) → Subset a b
has_subset a b s k h = true_T (has b k) (s k (T_true (has a k) h))

-- `x & m == m` says that m is a subset of x
pub all_in : (x m : ℕ) → bit_and x m ≡ m → Subset m x
all_in x m e k h = ((∈-and k x m).0 (subst (λ (s : ℕ). k ∈ s) (sym e) h)).0

pub in_all : (n x m : ℕ) → x < 2 ^ n → m < 2 ^ n → Subset m x → bit_and x m ≡ m
in_all n x m hx hm s =
    same_members n (bit_and x m) m (omega (arith, and_le_l x m)) hm
    (λ k. ((λ h. ((∈-and k x m).0 h).1), (λ h. (∈-and k x m).1 (s k h, h))))

-- `x & m == 0` says that x and m have no common member
pub ∈_none_in : (x m k : ℕ) → bit_and x m ≡ 0 → k ∈ x → k ∈ m → ⊥
∈_none_in x m k z h l = ∈_none k (subst (λ (s : ℕ). k ∈ s) z ((∈-and k x m).1 (h, l)))

pub none_in : (x m k : ℕ) → bit_and x m ≡ 0 → has x k ≡ true → has m k ≡ true → ⊥
none_in x m k z h l = ∈_none_in x m k z (true_T (has x k) h) (true_T (has m k) l)

-- and otherwise there is one
pub ∈_some_in : (n x m : ℕ) → x < 2 ^ n → (bit_and x m ≡ 0 → ⊥) → (k : ℕ) × (k < n) × (k ∈ x) × (k ∈ m)
∈_some_in n x m h z =
    let (k, l, t) = ∈_member n (bit_and x m) (omega (arith, and_le_l x m)) (go (eq-zero-or-pos (bit_and x m))) in
    let (a, b) = (∈-and k x m).0 t in
    (k, l, a, b)
  where
    go : (bit_and x m ≡ 0) ⊎ (0 < bit_and x m) → 0 < bit_and x m
    go (inl e) = absurd (z e)
    go (inr p) = p

pub some_in : (n x m : ℕ) → x < 2 ^ n → (bit_and x m ≡ 0 → ⊥) → (k : ℕ) × (k < n) × (has x k ≡ true) × (has m k ≡ true)
some_in n x m h z = let (k, l, a, b) = ∈_some_in n x m h z in (k, l, T_true (has x k) a, T_true (has m k) b)

-- ---- how many members

low_le : (a b : ℕ) → Subset a b → a % 2 ≤ b % 2
low_le a b s = digit_le (a % 2) (b % 2) (mod-lt a two_pos) (λ t. subst T (has_low b) (s 0 (subst T (sym (has_low a)) t)))

half_subset : (a b : ℕ) → Subset a b → Subset (a / 2) (b / 2)
half_subset a b s k h = subst T (has_suc b k) (s (suc k) (subst T (sym (has_suc a k)) h))

-- a subset is no greater as a number
pub subset_le : (n a b : ℕ) → a < 2 ^ n → Subset a b → a ≤ b
subset_le zero a b h s = omega arith
subset_le (suc n) a b h s = omega (arith, low_le a b s, subset_le n (a / 2) (b / 2) (half_lt n a h) (half_subset a b s))

pub ones_mono : (n a b : ℕ) → a < 2 ^ n → Subset a b → ones a ≤ ones b
ones_mono zero a b h s = omega (arith, ones-le 0 a h)
ones_mono (suc n) a b h s =
    omega (arith, ones_step a, ones_step b, low_le a b s, ones_mono n (a / 2) (b / 2) (half_lt n a h) (half_subset a b s))

pub ones_same : (n a b : ℕ) → a < 2 ^ n → b < 2 ^ n → Subset a b → ones b ≤ ones a → a ≡ b
ones_same zero a b ha hb s h = omega arith
ones_same (suc n) a b ha hb s h =
    let halves : ones (a / 2) ≤ ones (b / 2) = ones_mono n (a / 2) (b / 2) (half_lt n a ha) (half_subset a b s) in
    let lows : a % 2 ≤ b % 2 = low_le a b s in
    let hi : a / 2 ≡ b / 2 =
    ones_same n (a / 2) (b / 2) (half_lt n a ha) (half_lt n b hb) (half_subset a b s) (omega (arith, ones_step a, ones_step b)) in
    omega (arith, ones_step a, ones_step b)

-- a set that grew has more members
pub grown : (n a b : ℕ) → a < 2 ^ n → b < 2 ^ n → Subset a b → (a ≡ b → ⊥) → ones a < ones b
grown n a b ha hb s ne = go (eq-or-lt_of_le (ones_mono n a b ha s))
  where
    go : (ones a ≡ ones b) ⊎ (ones a < ones b) → ones a < ones b
    go (inl e) = absurd (ne (ones_same n a b ha hb s (omega arith)))
    go (inr h) = h

-- ---- the forms that code has

-- the test `x >> k & 1 == 1`
pub has_test : (x k : ℕ) → eqb (bit_and (x / 2 ^ k) 1) 1 ≡ has x k
unfolding has
has_test x k = ap (λ (y : ℕ). eqb y 1) (and_mask (x / 2 ^ k) 1)

-- `x | 1 << k` at n bits: the member k is added
pub add_same : (n x k : ℕ) → k < n → has (bit_or x ((1 * 2 ^ k) % 2 ^ n)) k ≡ true
add_same n x k h =
    has-or x ((1 * 2 ^ k) % 2 ^ n) k
    ∙ ap (λ (b : Bool). has x k || b) (ap (λ (m : ℕ). has m k) (one_shl k n h) ∙ has_one k k ∙ eq-eqb k k refl)
    ∙ or_true (has x k)
  where
    or_true : (p : Bool) → (p || true) ≡ true
    or_true true = refl
    or_true false = refl

-- and no other
pub add_other : (n x j k : ℕ) → j < n → (k ≡ j → ⊥) → has (bit_or x ((1 * 2 ^ j) % 2 ^ n)) k ≡ has x k
add_other n x j k h ne =
    has-or x ((1 * 2 ^ j) % 2 ^ n) k
    ∙ ap (λ (b : Bool). has x k || b) (ap (λ (m : ℕ). has m k) (one_shl j n h) ∙ has_one j k ∙ ne_eqb k j ne)
    ∙ or_false (has x k)
  where
    or_false : (p : Bool) → (p || false) ≡ p
    or_false true = refl
    or_false false = refl

-- in one: the members of `x | 1 << j`
pub ∈_add : (n x j k : ℕ) → j < n → (k ∈ bit_or x ((1 * 2 ^ j) % 2 ^ n)) ↔ ((k ∈ x) ⊎ (k ≡ j))
∈_add n x j k h = (
  (λ t. fwd ((∈-or k x ((1 * 2 ^ j) % 2 ^ n)).0 t)),
  (λ s. (∈-or k x ((1 * 2 ^ j) % 2 ^ n)).1 (bwd s)),
)
  where
    fwd : (k ∈ x) ⊎ (k ∈ (1 * 2 ^ j) % 2 ^ n) → (k ∈ x) ⊎ (k ≡ j)
    fwd (inl t) = inl t
    fwd (inr t) = inr (∈_one_is k j (subst (λ (s : ℕ). k ∈ s) (one_shl j n h) t))

    bwd : (k ∈ x) ⊎ (k ≡ j) → (k ∈ x) ⊎ (k ∈ (1 * 2 ^ j) % 2 ^ n)
    bwd (inl t) = inl t
    bwd (inr e) = inr (subst (λ (s : ℕ). k ∈ s) (sym (one_shl j n h)) (subst (λ (i : ℕ). k ∈ 2 ^ i) e (∈_one k)))

-- ---- a union over a set

abbrev Found : ℕ → ℕ → (ℕ → ℕ) → ℕ → Type 0
Found n set f t = (q : ℕ) × (q < n) × (q ∈ set) × (t ∈ f q)

∈_union_step : (n set : ℕ) (f : ℕ → ℕ) (t : ℕ) → (t ∈ union_over n set f) ↔ Found n set f t → (t ∈ union_over (suc n) set f) ↔ Found (suc n) set f t
unfolding union_over
∈_union_step n set f t ih = go (has set n) refl
  where
    Goal : Bool → Type 0
    Goal b = (t ∈ cond b (bit_or (f n) (union_over n set f)) (union_over n set f)) ↔ Found (suc n) set f t

    up : Found n set f t → Found (suc n) set f t
    up h = (h.0, omega arith, h.2, h.3)

    lower : (h : Found (suc n) set f t) → (h.0 ≡ n → ⊥) → Found n set f t
    lower h ne = (h.0, omega arith, h.2, h.3)

    on : has set n ≡ true → Goal true
    on e = (fwd, bwd)
      where
        split : (t ∈ f n) ⊎ (t ∈ union_over n set f) → Found (suc n) set f t
        split (inl h) = (n, omega arith, true_T (has set n) e, h)
        split (inr h) = up (ih.0 h)

        fwd : t ∈ bit_or (f n) (union_over n set f) → Found (suc n) set f t
        fwd h = split ((∈-or t (f n) (union_over n set f)).0 h)

        which : (h : Found (suc n) set f t) → (h.0 ≡ n) ⊎ (h.0 ≡ n → ⊥) → (t ∈ f n) ⊎ (t ∈ union_over n set f)
        which h (inl e') = inl (subst (λ (m : ℕ). t ∈ f m) e' h.3)
        which h (inr ne) = inr (ih.1 (lower h ne))

        bwd : Found (suc n) set f t → t ∈ bit_or (f n) (union_over n set f)
        bwd h = (∈-or t (f n) (union_over n set f)).1 (which h (cases_eq h.0 n))

    off : has set n ≡ false → Goal false
    off e = ((λ h. up (ih.0 h)), (λ h. ih.1 (lower h (λ e'. false_T (has set n) e (subst (λ (m : ℕ). m ∈ set) e' h.2)))))

    go : (b : Bool) → has set n ≡ b → Goal (has set n)
    go true e = subst Goal (sym e) (on e)
    go false e = subst Goal (sym e) (off e)

pub ∈_union : (n set : ℕ) (f : ℕ → ℕ) (t : ℕ) → (t ∈ union_over n set f) ↔ ((q : ℕ) × (q < n) × (q ∈ set) × (t ∈ f q))
unfolding union_over
∈_union zero set f t = ((λ h. absurd (∈_none t h)), (λ h. absurd (not-suc-le-zero h.1)))
∈_union (suc n) set f t = ∈_union_step n set f t (∈_union n set f t)

pub union_small : (n set : ℕ) (f : ℕ → ℕ) (w : ℕ) → ((q : ℕ) → q < n → f q < 2 ^ w) → union_over n set f < 2 ^ w
unfolding union_over
union_small zero set f w h = pow_pos w
union_small (suc n) set f w h = go (has set n) (union_small n set f w (λ q l. h q (omega arith)))
  where
    go : (b : Bool) → union_over n set f < 2 ^ w → cond b (bit_or (f n) (union_over n set f)) (union_over n set f) < 2 ^ w
    go true ih = or_lt w (f n) (union_over n set f) (h n (omega arith)) ih
    go false ih = ih

-- ---- a set from a test of its members

∈_set_of_step : (n : ℕ) (f : ℕ → Bool) (k : ℕ) → (k ∈ set_of n f) ↔ ((k < n) × T (f k)) → (k ∈ set_of (suc n) f) ↔ ((k < suc n) × T (f k))
unfolding set_of
∈_set_of_step n f k ih = go (f n) refl
  where
    Goal : Bool → Type 0
    Goal b = (k ∈ cond b (bit_or (2 ^ n) (set_of n f)) (set_of n f)) ↔ ((k < suc n) × T (f k))

    on : f n ≡ true → Goal true
    on e = ((λ h. put ((∈-or k (2 ^ n) (set_of n f)).0 h)), (λ h. (∈-or k (2 ^ n) (set_of n f)).1 (take_it h (cases_eq k n))))
      where
        put : (k ∈ 2 ^ n) ⊎ (k ∈ set_of n f) → (k < suc n) × T (f k)
        put (inl h) = let p = ∈_one_is k n h in (omega (arith, p), subst (λ (j : ℕ). T (f j)) (sym p) (true_T (f n) e))
        put (inr h) = let r = ih.0 h in (omega (arith, r.0), r.1)

        take_it : (k < suc n) × T (f k) → (k ≡ n) ⊎ (k ≡ n → ⊥) → (k ∈ 2 ^ n) ⊎ (k ∈ set_of n f)
        take_it h (inl p) = inl (subst (λ (j : ℕ). k ∈ 2 ^ j) p (∈_one k))
        take_it h (inr ne) = inr (ih.1 (omega (arith, h.0), h.1))

    off : f n ≡ false → Goal false
    off e = ((λ h. let r = ih.0 h in (omega (arith, r.0), r.1)), (λ h. ih.1 (less h (λ p. subst T e (subst (λ (j : ℕ). T (f j)) p h.1)), h.1)))
      where
        less : (k < suc n) × T (f k) → (k ≡ n → ⊥) → k < n
        less h ne = omega (arith, h.0)

    go : (b : Bool) → f n ≡ b → Goal (f n)
    go true e = subst Goal (sym e) (on e)
    go false e = subst Goal (sym e) (off e)

pub ∈-set_of : (n : ℕ) (f : ℕ → Bool) (k : ℕ) → (k ∈ set_of n f) ↔ ((k < n) × T (f k))
unfolding set_of
∈-set_of zero f k = ((λ h. absurd (∈_none k h)), (λ h. absurd (not-suc-le-zero h.0)))
∈-set_of (suc n) f k = ∈_set_of_step n f k (∈-set_of n f k)

pub has-set_of : (n : ℕ) (f : ℕ → Bool) (k : ℕ) → k < n → has (set_of n f) k ≡ f k
has-set_of n f k l = go (dec_t (f k))
  where
    go : T (f k) ⊎ (T (f k) → ⊥) → has (set_of n f) k ≡ f k
    go (inl h) = T_true _ ((∈-set_of n f k).1 (l, h)) ∙ sym (T_true _ h)
    go (inr no_way) = T_false _ (λ h. no_way ((∈-set_of n f k).0 h).1) ∙ sym (T_false _ no_way)

pub set_of_small : (n : ℕ) (f : ℕ → Bool) → set_of n f < 2 ^ n
unfolding set_of
set_of_small zero f = zero-lt-suc 0
set_of_small (suc n) f = go (f n) (set_of_small n f)
  where
    go : (b : Bool) → set_of n f < 2 ^ n → cond b (bit_or (2 ^ n) (set_of n f)) (set_of n f) < 2 ^ suc n
    go true h = or_lt (suc n) (2 ^ n) (set_of n f) (pow_below n (suc n) (le_refl (suc n))) (omega (arith, h, pow_below n (suc n) (le_refl (suc n))))
    go false h = omega (arith, h, pow_below n (suc n) (le_refl (suc n)))
