-- A set of small numbers, held in one number: k is a member where bit k is set.
use Rattle.std.specs.Prelude.{ℕ, zero, suc, ◌/◌, ◌%◌, ◌^◌, Bool, cond, T, ◌==◌, bit_or, List, filter}
use Rattle.std.specs.List.{range_with_len}

-- whether bit k is set
unfoldable pub has : ℕ → ℕ → Bool
has set k = (set / 2 ^ k % 2) == 1

-- k is a member of the set
infix 5 ◌∈◌
abbrev pub ◌∈◌ : ℕ → ℕ → Type 0
k ∈ set = T (has set k)

-- every member of a is a member of b
abbrev pub Subset : ℕ → ℕ → Type 0
Subset a b = (k : ℕ) → k ∈ a → k ∈ b

-- the set of the numbers below n that pass a test
unfoldable pub set_of : ℕ → (ℕ → Bool) → ℕ
set_of zero f = 0
set_of (suc n) f = cond (f n) (bit_or (2 ^ n) (set_of n f)) (set_of n f)

-- the union of the sets f k, over the members k of a set that are below n
unfoldable pub union_over : ℕ → ℕ → (ℕ → ℕ) → ℕ
union_over zero set f = 0
union_over (suc n) set f = cond (has set n) (bit_or (f n) (union_over n set f)) (union_over n set f)

-- the members of a set that are below 64, in rising order
unfoldable pub members_of : ℕ → List ℕ
members_of set = filter (has set) (range_with_len 0 64)
