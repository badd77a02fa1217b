-- The list of a set's members, lowest first: what stands at its front, what follows, and what holds of each of them.
use Rattle.std.proofs.Common.{◌≡◌, ℕ, zero, suc, ◌+◌, ◌-◌, ◌^◌, ◌<◌, ◌≤◌, Bool, true, false, cond, not, ◌&&◌, ◌||◌, eqb, ◌⊎◌, List, [], ◌∷◌, ◌++◌, fold, sym, refl, ap, ◌∙◌, subst, ap₂, inl, inr, add-one, arith, eqb→eq}
use lib.Bits.{bit_and, bit_or, or_comm}
use lib.Count.{count_trailing_zeros}
use borrow.Author.Numbers.{trailing_lt}
use Rattle.std.specs.List.{All, filter, list_any, range_with_len, sum_by}
use Rattle.std.proofs.lemmas.Bool.{cases_eq, eq-eqb, ne_eqb}
use Rattle.std.proofs.lemmas.List.Elements.{All-nil, All-cons, All-weaker, filter-append}
use Rattle.std.proofs.lemmas.List.{append-nil, map-id}
use Rattle.std.proofs.lemmas.List.Sums.{fold-append, sum_by_push}
use Rattle.std.proofs.lemmas.List.Folds.{list_any_none, Any-from_list_any}
use Rattle.std.proofs.lemmas.List.FromFn.{map-range_with_len_more}
use Rattle.events.specs.Sets.{has, members_of, union_over}
use Rattle.events.specs.Cells.{one_if, count_below}
use Rattle.events.proofs.SetLaws.{true_T, has_none, has_above}
use Rattle.events.proofs.LowestLaws.{low_member, low_least, without}

-- ---- a filter over n numbers from a on

keep : (p : ℕ → Bool) (a : ℕ) (xs : List ℕ) → p a ≡ true → filter p (a ∷ xs) ≡ a ∷ filter p xs
keep p a xs e = ap (λ (b : Bool). cond b (a ∷ filter p xs) (filter p xs)) e

omit : (p : ℕ → Bool) (a : ℕ) (xs : List ℕ) → p a ≡ false → filter p (a ∷ xs) ≡ filter p xs
omit p a xs e = ap (λ (b : Bool). cond b (a ∷ filter p xs) (filter p xs)) e

-- no number passes
none_pass : (p : ℕ → Bool) (a n : ℕ) → ((k : ℕ) → p k ≡ false) → filter p (range_with_len a n) ≡ []
none_pass p a zero h = refl
none_pass p a (suc n) h = omit p a (range_with_len (a + 1) n) (h a) ∙ none_pass p (a + 1) n h

-- the same numbers pass
same_pass : (p q : ℕ → Bool) (a n : ℕ) → ((k : ℕ) → a ≤ k → p k ≡ q k) → filter p (range_with_len a n) ≡ filter q (range_with_len a n)
same_pass p q a zero h = refl
same_pass p q a (suc n) h =
    ap₂ (λ (b : Bool) (xs : List ℕ). cond b (a ∷ xs) xs) (h a (omega arith)) (same_pass p q (a + 1) n (λ k l. h k (omega arith)))

-- t is the first that passes p, and q is p without it
first_pass : (p q : ℕ → Bool) (t a n : ℕ) → a ≤ t → t < a + n → p t ≡ true → ((k : ℕ) → k < t → p k ≡ false) → q t ≡ false → ((k : ℕ) → (k ≡ t → ⊥) → q k ≡ p k)
    → filter p (range_with_len a n) ≡ t ∷ filter q (range_with_len a n)
first_pass p q t a zero low high is least gone others = absurd (omega arith)
first_pass p q t a (suc n) low high is least gone others = go (cases_eq a t) (λ up. first_pass p q t (a + 1) n up (omega arith) is least gone others)
  where
    go : (a ≡ t) ⊎ (a ≡ t → ⊥) → (a + 1 ≤ t → filter p (range_with_len (a + 1) n) ≡ t ∷ filter q (range_with_len (a + 1) n))
        → filter p (range_with_len a (suc n)) ≡ t ∷ filter q (range_with_len a (suc n))
    go (inl e) ih =
        keep p a (range_with_len (a + 1) n) (ap p e ∙ is)
        ∙ ap₂ (λ (x : ℕ) (xs : List ℕ). x ∷ xs) e
        (same_pass p q (a + 1) n (λ k l. sym (others k (λ s. let no_way : ⊥ = omega (arith, s, e) in no_way))) ∙ sym (omit q a (range_with_len (a + 1) n) (ap q e ∙ gone)))
    go (inr ne) ih =
        omit p a (range_with_len (a + 1) n) (least a (omega (arith, ne)))
        ∙ ih (omega (arith, ne))
        ∙ ap (λ (xs : List ℕ). t ∷ xs) (sym (omit q a (range_with_len (a + 1) n) (others a ne ∙ least a (omega (arith, ne)))))

-- the numbers below n + 1 are those below n, and n
pub numbers_more : (n : ℕ) → range_with_len 0 (suc n) ≡ range_with_len 0 n ++ n ∷ []
numbers_more n =
    let whole = map-range_with_len_more (λ k. k) 0 n n (omega arith) in
    ap (range_with_len 0) (sym (add-one n)) ∙ sym (map-id (range_with_len 0 (n + 1))) ∙ whole ∙ ap (λ (xs : List ℕ). xs ++ n ∷ []) (map-id (range_with_len 0 n))

-- counting the numbers below n that pass is summing up ones
pub sum_passing : (n : ℕ) (p : ℕ → Bool) → sum_by (λ k. one_if (p k)) (range_with_len 0 n) ≡ count_below n p
sum_passing zero p = refl
sum_passing (suc n) p =
    ap (sum_by (λ k. one_if (p k))) (numbers_more n)
    ∙ sum_by_push (λ k. one_if (p k)) (range_with_len 0 n) n
    ∙ ap (λ (a : ℕ). a + one_if (p n)) (sum_passing n p)

-- ---- the members of a set

-- the empty set has none
pub members-none : members_of 0 ≡ []
unfolding members_of
members-none = none_pass (has 0) 0 64 has_none

and_true : (p : Bool) → (p && true) ≡ p
and_true true = refl
and_true false = refl

and_false : (p : Bool) → (p && false) ≡ false
and_false true = refl
and_false false = refl

-- any other has the lowest, and then those that are left
pub members-front : (set : ℕ) → 0 < set → set < 2 ^ 64 → members_of set ≡ count_trailing_zeros 64 set ∷ members_of (bit_and set (set - 1))
unfolding members_of
members-front set pos wide =
    let t = count_trailing_zeros 64 set in
    first_pass (has set) (has (bit_and set (set - 1))) t 0 64 (omega arith) (omega (arith, trailing_lt 64 set pos wide)) (low_member 64 set pos wide) (low_least 64 set)
    (without 64 set t pos wide ∙ ap (λ (b : Bool). has set t && not b) (eq-eqb t t refl) ∙ and_false (has set t))
    (λ k ne. without 64 set k pos wide ∙ ap (λ (b : Bool). has set k && not b) (ne_eqb k t ne) ∙ and_true (has set k))

-- ---- what holds of each member

-- a number, and what is above it
abbrev From : (ℕ → Bool) → ℕ → ℕ → ℕ → Type 0
From p a n k = (a ≤ k) × (k < a + n) × (p k ≡ true)

-- whatever passes a filter over n numbers from a on is one of them, and passes
passing : (p : ℕ → Bool) (a n : ℕ) → All (From p a n) (filter p (range_with_len a n))
passing p a zero = All-nil (From p a 0)
passing p a (suc n) = go (p a) refl (All-weaker (From p (a + 1) n) (From p a (suc n)) (λ k h. (omega (arith, h.0), omega (arith, h.1), h.2)) (filter p (range_with_len (a + 1) n)) (passing p (a + 1) n))
  where
    go : (b : Bool) → p a ≡ b → All (From p a (suc n)) (filter p (range_with_len (a + 1) n)) → All (From p a (suc n)) (filter p (range_with_len a (suc n)))
    go true e tail = subst (All (From p a (suc n))) (sym (keep p a (range_with_len (a + 1) n) e)) (All-cons (From p a (suc n)) a (filter p (range_with_len (a + 1) n)) (omega arith, omega arith, e) tail)
    go false e tail = subst (All (From p a (suc n))) (sym (omit p a (range_with_len (a + 1) n) e)) tail

-- below 64, and in the set
abbrev pub Member : ℕ → ℕ → Type 0
Member set k = (k < 64) × (has set k ≡ true)

pub members-in : (set : ℕ) → All (Member set) (members_of set)
unfolding members_of
members-in set = All-weaker (From (has set) 0 64) (Member set) (λ k h. (omega (arith, h.1), h.2)) (filter (has set) (range_with_len 0 64)) (passing (has set) 0 64)

-- whether a number is among those that pass
among : (p : ℕ → Bool) (k a n : ℕ) → a ≤ k → k < a + n → list_any (λ m. eqb m k) (filter p (range_with_len a n)) ≡ p k
among p k a zero low high = absurd (omega arith)
among p k a (suc n) low high = go (p a) refl (cases_eq a k) (λ up. among p k (a + 1) n up (omega arith))
  where
    go : (b : Bool) → p a ≡ b → (a ≡ k) ⊎ (a ≡ k → ⊥) → (a + 1 ≤ k → list_any (λ m. eqb m k) (filter p (range_with_len (a + 1) n)) ≡ p k)
        → list_any (λ m. eqb m k) (filter p (range_with_len a (suc n))) ≡ p k
    go true e (inl s) ih =
        ap (list_any (λ m. eqb m k)) (keep p a (range_with_len (a + 1) n) e)
        ∙ ap (λ (b : Bool). b || list_any (λ m. eqb m k) (filter p (range_with_len (a + 1) n))) (eq-eqb a k s) ∙ sym (ap p (sym s) ∙ e)
    go true e (inr ne) ih =
        ap (list_any (λ m. eqb m k)) (keep p a (range_with_len (a + 1) n) e)
        ∙ ap (λ (b : Bool). b || list_any (λ m. eqb m k) (filter p (range_with_len (a + 1) n))) (ne_eqb a k ne) ∙ ih (omega (arith, ne))
    go false e (inl s) ih =
        ap (list_any (λ m. eqb m k)) (omit p a (range_with_len (a + 1) n) e)
        ∙ list_any_none (λ m. eqb m k) (filter p (range_with_len (a + 1) n))
        (All-weaker (From p (a + 1) n) (λ m. eqb m k ≡ false) (λ m h. ne_eqb m k (λ q. let no_way : ⊥ = omega (arith, q, s, h.0) in no_way)) (filter p (range_with_len (a + 1) n)) (passing p (a + 1) n))
        ∙ sym (ap p (sym s) ∙ e)
    go false e (inr ne) ih = ap (list_any (λ m. eqb m k)) (omit p a (range_with_len (a + 1) n) e) ∙ ih (omega (arith, ne))

-- the list has just the members below 64
pub any-member : (set k : ℕ) → k < 64 → list_any (λ m. eqb m k) (members_of set) ≡ has set k
unfolding members_of
any-member set k l = among (has set) k 0 64 (omega arith) (omega arith)

-- what holds of each in the list holds of each member below 64
pub each-member : (P : ℕ → Type 0) (set k : ℕ) → All P (members_of set) → k < 64 → has set k ≡ true → P k
each-member P set k all l h =
    let (i, m, low, is, same) = Any-from_list_any (λ j. eqb j k) (members_of set) (any-member set k l ∙ h) in
    subst P (is ∙ eqb→eq m k (true_T (eqb m k) same)) (all i m low)

-- ---- one turn of a loop over the members: x comes first of those in s, and t is what is left

pub record Taken (s x t : ℕ) : Type 0 where
  pub low : x < 64
  pub member : has s x ≡ true
  pub least : (k : ℕ) → k < x → has s k ≡ false
  pub gone : has t x ≡ false
  pub others : (k : ℕ) → k < 64 → (k ≡ x → ⊥) → has t k ≡ has s k

-- the first that passes, and what comes after it
first_of_pass : (p : ℕ → Bool) (a n x : ℕ) (ys : List ℕ) → filter p (range_with_len a n) ≡ x ∷ ys → From p a n x × All (λ k. x < k) ys
first_of_pass p a zero x ys is = absurd (grind (arith, is))
first_of_pass p a (suc n) x ys is = go (p a) refl (λ same. first_of_pass p (a + 1) n x ys same)
  where
    go : (b : Bool) → p a ≡ b → (filter p (range_with_len (a + 1) n) ≡ x ∷ ys → From p (a + 1) n x × All (λ k. x < k) ys) → From p a (suc n) x × All (λ k. x < k) ys
    go true e ih =
        let front : a ∷ filter p (range_with_len (a + 1) n) ≡ x ∷ ys = sym (keep p a (range_with_len (a + 1) n) e) ∙ is in
        let first : a ≡ x = grind (arith, front) in
        let tail : filter p (range_with_len (a + 1) n) ≡ ys = grind (arith, front) in (
          (omega (arith, first), omega (arith, first), ap p (sym first) ∙ e),
          subst (All (λ k. x < k)) tail (All-weaker (From p (a + 1) n) (λ k. x < k) (λ k h. omega (arith, h.0, first)) (filter p (range_with_len (a + 1) n)) (passing p (a + 1) n)),
        )
    go false e ih = let (h, above) = ih (sym (omit p a (range_with_len (a + 1) n) e) ∙ is) in ((omega (arith, h.0), omega (arith, h.1), h.2), above)

pub taken : (s x t : ℕ) → members_of s ≡ x ∷ members_of t → Taken s x t
unfolding members_of
taken s x t is =
    let (h, above) = first_of_pass (has s) 0 64 x (members_of t) is in
    let bit : (k : ℕ) → k < 64 → has s k ≡ (eqb x k || has t k) =
    λ k l. sym (any-member s k l) ∙ ap (list_any (λ m. eqb m k)) is ∙ ap (λ (b : Bool). eqb x k || b) (any-member t k l) in
    let not_below : (k : ℕ) → k < 64 → k ≤ x → has t k ≡ false =
    λ k l le. sym (any-member t k l) ∙ list_any_none (λ m. eqb m k) (members_of t) (All-weaker (λ m. x < m) (λ m. eqb m k ≡ false) (λ m up. ne_eqb m k (λ q. let no_way : ⊥ = omega (arith, q, up, le) in no_way)) (members_of t) above) in
    record {
      low = omega (arith, h.1);
      member = h.2;
      least = λ k l. bit k (omega (arith, l, h.1)) ∙ ap (λ (b : Bool). b || has t k) (ne_eqb x k (λ q. let no_way : ⊥ = omega (arith, q, l) in no_way)) ∙ not_below k (omega (arith, l, h.1)) (omega (arith, l));
      gone = not_below x (omega (arith, h.1)) (omega arith);
      others = λ k l ne. sym (bit k l ∙ ap (λ (b : Bool). b || has t k) (ne_eqb x k (λ q. ne (sym q))));
    }

-- where none is left, none was there
pub none_left : (s : ℕ) → members_of s ≡ [] → (k : ℕ) → k < 64 → has s k ≡ false
none_left s is k l = sym (any-member s k l) ∙ ap (list_any (λ m. eqb m k)) is

-- ---- a union over a set, gathered member by member

abbrev pub union_of : (ℕ → ℕ) → List ℕ → ℕ
union_of f xs = fold (λ u k. bit_or u (f k)) 0 xs

gathered_below : (n set : ℕ) (f : ℕ → ℕ) → union_of f (filter (has set) (range_with_len 0 n)) ≡ union_over n set f
unfolding union_over
gathered_below zero set f = refl
gathered_below (suc n) set f =
    ap (λ (xs : List ℕ). union_of f (filter (has set) xs)) (numbers_more n)
    ∙ ap (union_of f) (filter-append (has set) (range_with_len 0 n) (n ∷ []))
    ∙ fold-append (λ u k. bit_or u (f k)) 0 (filter (has set) (range_with_len 0 n)) (filter (has set) (n ∷ []))
    ∙ go (has set n) refl (gathered_below n set f)
  where
    go : (b : Bool) → has set n ≡ b → union_of f (filter (has set) (range_with_len 0 n)) ≡ union_over n set f
        → fold (λ u k. bit_or u (f k)) (union_of f (filter (has set) (range_with_len 0 n))) (cond b (n ∷ []) []) ≡ cond b (bit_or (f n) (union_over n set f)) (union_over n set f)
    go true e ih = ap (λ (u : ℕ). bit_or u (f n)) ih ∙ or_comm (union_over n set f) (f n)
    go false e ih = ih

-- above the width no number passes
wider : (n m set : ℕ) → set < 2 ^ n → filter (has set) (range_with_len 0 (n + m)) ≡ filter (has set) (range_with_len 0 n)
wider n zero set w = ap (λ (k : ℕ). filter (has set) (range_with_len 0 k)) (omega arith)
wider n (suc m) set w =
    let next : n + suc m ≡ suc (n + m) = omega arith in
    ap (λ (k : ℕ). filter (has set) (range_with_len 0 k)) next
    ∙ ap (filter (has set)) (numbers_more (n + m))
    ∙ filter-append (has set) (range_with_len 0 (n + m)) ((n + m) ∷ [])
    ∙ ap (λ (b : Bool). filter (has set) (range_with_len 0 (n + m)) ++ cond b ((n + m) ∷ []) []) (has_above n set (n + m) w (omega arith))
    ∙ append-nil (filter (has set) (range_with_len 0 (n + m)))
    ∙ wider n m set w

-- the union over a set of n bits is that over the list of its members
pub union_members : (n set : ℕ) (f : ℕ → ℕ) → n ≤ 64 → set < 2 ^ n → union_over n set f ≡ union_of f (members_of set)
unfolding members_of
union_members n set f low w =
    let whole : 64 ≡ n + (64 - n) = omega arith in
    sym (gathered_below n set f) ∙ ap (union_of f) (sym (wider n (64 - n) set w)) ∙ ap (λ (k : ℕ). union_of f (filter (has set) (range_with_len 0 k))) (sym whole)
