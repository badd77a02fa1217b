-- Events and cells. An event is a number below 64: bit i says whether line i is on. A cell is a number below 729, read as six digits in base three:
-- digit i is 0 where line i does not matter, 1 where it is on, and 2 where it is off.
use Rattle.std.specs.Prelude.{◌≡◌, ℕ, zero, suc, ◌+◌, ◌*◌, ◌/◌, ◌%◌, ◌^◌, ◌<◌, Bool, true, false, not, ◌&&◌, T, nat_eq}
use Rattle.events.specs.Sets.{has, set_of}

-- the digit of a line, with weight 3 ^ line
abbrev pub digit : ℕ → ℕ → ℕ
digit cell line = cell / 3 ^ line % 3

-- whether a digit agrees with a line that is on or off
abbrev pub agrees : ℕ → Bool → Bool
agrees zero on = true
agrees (suc zero) on = on
agrees (suc (suc k)) on = not on

-- a cell covers the events that agree with its digit at every line
abbrev pub Covers : ℕ → ℕ → Type 0
Covers cell event = (line : ℕ) → line < 6 → T (agrees (digit cell line) (has event line))

-- the same as a test, over the lines below n
abbrev pub covers_below : ℕ → ℕ → ℕ → Bool
covers_below zero cell event = true
covers_below (suc n) cell event = agrees (digit cell n) (has event n) && covers_below n cell event

-- whether a cell covers an event
unfoldable pub covers : ℕ → ℕ → Bool
covers cell event = covers_below 6 cell event

-- the lowest event that a cell covers: on are just the lines that the cell wants on
unfoldable pub lowest : ℕ → ℕ
lowest cell = set_of 6 (λ line. nat_eq (digit cell line) 1)

-- ---- the lines that a cell leaves free

-- a line that is not fixed in the cell
abbrev pub Free : ℕ → ℕ → Type 0
Free cell line = (line < 6) × (digit cell line ≡ 0)

-- 1 for true, and 0 for false
abbrev pub one_if : Bool → ℕ
one_if true = 1
one_if false = 0

-- how many numbers below n pass a test
abbrev pub count_below : ℕ → (ℕ → Bool) → ℕ
count_below zero f = 0
count_below (suc n) f = count_below n f + one_if (f n)

-- how many of the six lines are free in the cell
unfoldable pub free_in : ℕ → ℕ
free_in cell = count_below 6 (λ line. nat_eq (digit cell line) 0)

-- the cell with a free line fixed to on
abbrev pub on_cell : ℕ → ℕ → ℕ
on_cell cell line = cell + 3 ^ line

-- the cell with a free line fixed to off
abbrev pub off_cell : ℕ → ℕ → ℕ
off_cell cell line = cell + 2 * 3 ^ line
