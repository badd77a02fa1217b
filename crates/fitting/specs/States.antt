-- What fitting leaves for one state: the best tree, written into a list of nodes from a place on, and its cost.
use Rattle.std.specs.Prelude.{◌≡◌, ℕ, suc, ◌+◌, ◌^◌, ◌<◌, ◌≤◌, List, [], ◌∷◌, slice_set}
use Rattle.events.specs.Cells.{free_in}
use Rattle.rules.specs.declared.Line.{Line}
use Rattle.rules.specs.declared.Node.{Node}
use Rattle.rules.specs.trees.Trees.{Tree, gives, PollsOnce}
use Rattle.rules.specs.trees.Layouts.{size_of, nodes_from, Stands}
use Rattle.rules.specs.trees.Costs.{Price, expected, cost_of, mean_cost, IsTrillionfold}
use Rattle.rules.specs.trees.Bests.{Bests, BestTree}

-- the list with others written over it, from a place on
abbrev pub overwrite : {A : Type 0} → List A → ℕ → List A → List A
overwrite xs place [] = xs
overwrite xs place (y ∷ ys) = overwrite (slice_set xs place y) (place + 1) ys

-- the best tree in a cell stands from a place on, and all other nodes are as they were; `behind` is the place behind it
pub record Written (wants line : ℕ → ℕ) (cell place : ℕ) (before after : List Node) (behind : ℕ) : Type 0 where
  pub tree : Tree
  pub best : BestTree wants line cell tree
  pub small : size_of tree < 2 ^ suc (free_in cell)
  pub end : behind ≡ place + size_of tree
  pub nodes : after ≡ overwrite before place (nodes_from place tree)

-- the tree gives the wanted set at each of the 64 events
abbrev pub GivesWanted : (ℕ → ℕ) → Tree → Type 0
GivesWanted wants t = (e : ℕ) → e < 64 → gives t e ≡ wants e

-- a state is fitted: its tree is the best tree in cell 0, which fixes no line
pub record StateFitted (price : Price) (lines : List Line) (wants : ℕ → ℕ) (place : ℕ) (before after : List Node) (behind cost : ℕ) : Type 0 where
  pub tree : Tree
  pub best : ℕ → ℕ
  pub line : ℕ → ℕ
  pub bests : Bests price lines wants best line
  pub best_tree : BestTree wants line 0 tree
  -- its nodes, and the rest as it was
  pub few : size_of tree ≤ 127
  pub end : behind ≡ place + size_of tree
  pub nodes : after ≡ overwrite before place (nodes_from place tree)
  pub stands : Stands after place tree
  -- its cost, told
  pub top : cost ≡ best 0
  pub costs : cost ≡ cost_of price lines 6 tree
  -- it gives what is wanted, polls no line twice, and no such tree costs less
  pub gives_wanted : GivesWanted wants tree
  pub polls_once : PollsOnce 0 tree
  pub cheapest : (other : Tree) → GivesWanted wants other → PollsOnce 0 other → cost ≤ cost_of price lines 6 other
  -- by the expected cost, the cost told is 10 ^ 12 times the mean
  pub mean : price ≡ expected → IsTrillionfold (mean_cost lines tree) cost
