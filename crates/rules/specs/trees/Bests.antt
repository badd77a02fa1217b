-- The best cost and the best tree in each of the 729 cells, for the sets that a state wants at the 64 events.
use Rattle.std.specs.Prelude.{◌≡◌, ℕ, ◌<◌, ◌≤◌, List}
use Rattle.rules.specs.declared.Line.{Line}
use Rattle.events.specs.Cells.{Covers, Free, free_in, on_cell, off_cell}
use Rattle.rules.specs.automata.Rules.{Rule, line_of}
use Rattle.rules.specs.automata.Pruning.{Wants}
use Rattle.rules.specs.trees.Trees.{Tree, leaf, fork, PollsOnce, Serves}
use Rattle.rules.specs.trees.Costs.{Price, expected, cost_of, Cheapest, mean_cost, IsTrillionfold}

-- all events that the cell covers want the same set
abbrev pub Constant : (ℕ → ℕ) → ℕ → Type 0
Constant wants cell = (a b : ℕ) → a < 64 → b < 64 → Covers cell a → Covers cell b → wants a ≡ wants b

-- the price of a fork on a line that is free in the cell, from the best costs of the two cells below
abbrev pub fork_price : Price → List Line → (ℕ → ℕ) → ℕ → ℕ → ℕ
fork_price price lines best cell i =
    price (line_of lines i).cost (line_of lines i).chance (free_in cell) (best (on_cell cell i)) (best (off_cell cell i))

-- i is a free line whose fork has the least price, and the lowest such line
pub record LowestBest (price : Price) (lines : List Line) (best : ℕ → ℕ) (cell i : ℕ) : Type 0 where
  pub free : Free cell i
  pub least : (j : ℕ) → Free cell j → fork_price price lines best cell i ≤ fork_price price lines best cell j
  pub lowest : (j : ℕ) → j < i → Free cell j → fork_price price lines best cell i < fork_price price lines best cell j

-- the best cost and the chosen line of each cell: a constant cell costs 0, and any other costs the price of the fork on its chosen line
pub record Bests (price : Price) (lines : List Line) (wants best line : ℕ → ℕ) : Type 0 where
  pub constant : (cell : ℕ) → cell < 729 → Constant wants cell → best cell ≡ 0
  pub forked : (cell : ℕ) → cell < 729 → (Constant wants cell → ⊥) → LowestBest price lines best cell (line cell) × (best cell ≡ fork_price price lines best cell (line cell))

-- the best tree in a cell: a leaf of the wanted set where the cell is constant, and otherwise a fork on the chosen line
abbrev pub BestTree : (ℕ → ℕ) → (ℕ → ℕ) → ℕ → Tree → Type 0
BestTree wants line cell (leaf set) = (e : ℕ) → e < 64 → Covers cell e → wants e ≡ set
BestTree wants line cell (fork i on off) =
    (Constant wants cell → ⊥) × (line cell ≡ i) × BestTree wants line (on_cell cell i) on × BestTree wants line (off_cell cell i) off

-- the fitted tree of a state is the best tree in cell 0, which fixes no line
pub record IsBest (price : Price) (rule : Rule) (q : ℕ) (t : Tree) : Type 0 where
  pub wants : ℕ → ℕ
  pub best : ℕ → ℕ
  pub line : ℕ → ℕ
  pub wanted : Wants rule q wants
  pub bests : Bests price rule.lines wants best line
  pub tree : BestTree wants line 0 t

-- what fitting promises of a state's tree, and of the cost that it tells
pub record Fitted (price : Price) (rule : Rule) (q : ℕ) (t : Tree) (cost : ℕ) : Type 0 where
  pub is_best : IsBest price rule q t
  pub serves : Serves rule q t
  pub polls_once : PollsOnce 0 t
  pub costs : cost ≡ cost_of price rule.lines 6 t
  pub cheapest : Cheapest price rule q cost
  -- by the expected cost, the cost told is 10 ^ 12 times the mean
  pub mean : price ≡ expected → IsTrillionfold (mean_cost rule.lines t) cost
