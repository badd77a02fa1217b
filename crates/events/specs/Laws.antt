-- The laws of sets and cells, as statements.
use Rattle.std.specs.Prelude.{◌≡◌, ℕ, ◌-◌, ◌%◌, ◌^◌, ◌<◌, ◌≤◌, Bool, T, ◌⊎◌, ◌↔◌, bit_and, bit_or}
use Rattle.events.specs.Sets.{◌∈◌, set_of, union_over}
use Rattle.events.specs.Cells.{Covers, covers, lowest}

-- ---- sets

-- the members of a | b are those of a and those of b
abbrev pub UnionMembers : Type 0
UnionMembers = (k a b : ℕ) → (k ∈ bit_or a b) ↔ ((k ∈ a) ⊎ (k ∈ b))

-- the members of a & b are those of both
abbrev pub SharedMembers : Type 0
SharedMembers = (k a b : ℕ) → (k ∈ bit_and a b) ↔ ((k ∈ a) × (k ∈ b))

-- 0 has no member
abbrev pub NoMembers : Type 0
NoMembers = (k : ℕ) → k ∈ 0 → ⊥

-- 2 ^ j has the one member j
abbrev pub OneMember : Type 0
OneMember = (k j : ℕ) → (k ∈ 2 ^ j) ↔ (k ≡ j)

-- 2 ^ n - 1 has each number below n
abbrev pub EveryMember : Type 0
EveryMember = (n k : ℕ) → (k ∈ 2 ^ n - 1) ↔ (k < n)

-- a number of n bits has no member at or above n
abbrev pub MembersBelow : Type 0
MembersBelow = (n k set : ℕ) → set < 2 ^ n → k ∈ set → k < n

-- numbers with the same members are equal
abbrev pub SameMembers : Type 0
SameMembers = (n a b : ℕ) → a < 2 ^ n → b < 2 ^ n → ((k : ℕ) → (k ∈ a) ↔ (k ∈ b)) → a ≡ b

-- the members of a set made by a test
abbrev pub TestedMembers : Type 0
TestedMembers = (n : ℕ) (f : ℕ → Bool) (k : ℕ) → (k ∈ set_of n f) ↔ ((k < n) × T (f k))

-- the members of a union over a set
abbrev pub UnionOverMembers : Type 0
UnionOverMembers =
    (n set : ℕ) (f : ℕ → ℕ) (k : ℕ) → (k ∈ union_over n set f) ↔ ((j : ℕ) × (j < n) × (j ∈ set) × (k ∈ f j))

-- ---- cells

-- the test of covering is right
abbrev pub CoversTested : Type 0
CoversTested = (cell event : ℕ) → T (covers cell event) ↔ Covers cell event

-- the lowest event of a cell is covered, and no covered event is lower
abbrev pub LowestCovered : Type 0
LowestCovered = (cell : ℕ) → (lowest cell < 64) × Covers cell (lowest cell) × ((event : ℕ) → Covers cell event → lowest cell ≤ event)

-- four cells: 0 covers each event, 1 those with line 0 on, 364 the one with every line on, and 728 the one with every line off
abbrev pub FourCells : Type 0
FourCells =
    (event : ℕ) → event < 64 → Covers 0 event
    × (Covers 1 event ↔ (event % 2 ≡ 1))
    × (Covers 364 event ↔ (event ≡ 63))
    × (Covers 728 event ↔ (event ≡ 0))
