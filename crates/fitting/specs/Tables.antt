-- The tables of best costs and chosen lines, one entry for each of the 729 cells.
use Rattle.std.specs.Prelude.{◌≡◌, ℕ, ◌<◌, ◌≤◌, List, Option, None, Some, MatchOption, if◌then◌else◌, nat_lt, IsSomeAnd, slice_index, slice_index_or}
use Rattle.std.specs.Option.{unwrap_or}
use Rattle.events.specs.Cells.{Free, free_in}
use Rattle.rules.specs.declared.Line.{Line}
use Rattle.rules.specs.trees.Costs.{Price, bound}
use Rattle.rules.specs.trees.Bests.{Constant, fork_price, LowestBest}
use Rattle.fitting.specs.declared.best.Fork.{Fork}

-- what stands at a place of a list of numbers, and 0 past its end
abbrev pub value_at : List ℕ → ℕ → ℕ
value_at xs k = slice_index xs k

-- the line that is chosen in a cell, and 6, which is no line, where none is
abbrev pub line_at : List (Option ℕ) → ℕ → ℕ
line_at chosen cell = unwrap_or (slice_index_or chosen cell None) 6

-- the costs of the cells after a cell are within the bound for the lines that they leave free
abbrev pub SmallAfter : (ℕ → ℕ) → ℕ → Type 0
SmallAfter best cell = (k : ℕ) → cell < k → k < 729 → best k ≤ bound (free_in k)

-- the cheaper of two forks, and the first where they cost the same; one that is missing gives way
abbrev pub cheaper_of : Option Fork → Option Fork → Option Fork
cheaper_of None next = next
cheaper_of (Some first) None = Some first
cheaper_of (Some first) (Some next) = Some (if nat_lt next.cost first.cost then next else first)

-- the fork on the lowest free line whose fork has the least price, and that price
pub record LeastFork (price : Price) (lines : List Line) (best : ℕ → ℕ) (cell : ℕ) (fork : Fork) : Type 0 where
  pub lowest_best : LowestBest price lines best cell fork.line
  pub priced : fork.cost ≡ fork_price price lines best cell fork.line

-- what is picked in a cell: no fork where the cell is constant, and otherwise the least
abbrev pub Picked : Price → List Line → (ℕ → ℕ) → (ℕ → ℕ) → ℕ → Option Fork → Type 0
Picked price lines wants best cell pick =
    MatchOption pick (Constant wants cell) (λ fork. (Constant wants cell → ⊥) × LeastFork price lines best cell fork)

-- a table of chosen lines: none for a constant cell, and a free line for any other
pub record Chosen (wants : ℕ → ℕ) (chosen : List (Option ℕ)) : Type 0 where
  pub no_line : (cell : ℕ) → cell < 729 → Constant wants cell → slice_index_or chosen cell None ≡ None
  pub free : (cell : ℕ) → cell < 729 → (Constant wants cell → ⊥) → IsSomeAnd (slice_index_or chosen cell None) (Free cell)
