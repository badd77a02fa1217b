-- What fitting a draft leaves in the nodes that it was lent, and what it tells.
use Rattle.std.specs.Prelude.{◌≡◌, ℕ, ◌<◌, ◌≤◌, List, ◌++◌, map, length, take, drop, Ok, Err, Result, slice_index, slice_index_or}
use Rattle.rules.specs.declared.Node.{Node}
use Rattle.rules.specs.automata.Rules.{Rule}
use Rattle.rules.specs.automata.Pruning.{Kinds, pruned_moves}
use Rattle.rules.specs.trees.Trees.{Tree, Implements}
use Rattle.rules.specs.trees.Layouts.{layout, top_of, Stands}
use Rattle.rules.specs.trees.Costs.{Price}
use Rattle.rules.specs.watch.Holding.{tree_of}
use Rattle.rules.specs.watch.Promises.{FittedAll}
use Rattle.fitting.specs.declared.fit.FitRefusal.{FitRefusal}
use Rattle.fitting.specs.declared.fit.FitRefusal.TheVariants as refusal
use Rattle.fitting.specs.declared.fit.FittedTree.{FittedTree}
use Rattle.fitting.specs.declared.fit.Fitting.{Fitting}

-- 23: fewer than 4,064 nodes
abbrev pub refusal_number : FitRefusal → ℕ
refusal_number refusal.FewNodes = 23

-- the costs told, one for each state
abbrev pub told_costs : Fitting → List ℕ
told_costs told = map (λ t. t.cost) (take told.states told.trees)

-- the top places told, one for each of the 32 places
abbrev pub told_tops : Fitting → List ℕ
told_tops told = map (λ t. t.top) told.trees

-- what is told past the states
abbrev pub no_tree : FittedTree
no_tree = record { cost = 0; top = 0 }

-- each state's tree implements the state's pruned moves, whichever numbers stand for its live, its safe and its release states
abbrev pub ImplementsAll : Rule → List Tree → Type 0
ImplementsAll rule trees =
    (live safe release : ℕ) → Kinds rule live safe release
    → (q : ℕ) → q < length rule.states → Implements (tree_of trees q) (pruned_moves rule live safe release q)

-- a rule is fitted by a measure into a list of nodes
pub record DraftFitted (price : Price) (rule : Rule) (before after : List Node) (told : Fitting) : Type 0 where
  -- one tree for each state, which is the best by the measure, serves the state, polls no line twice, and costs what is told; none is cheaper;
  -- and by the expected cost what is told is 10 ^ 12 times the mean
  pub trees : List Tree
  pub counted : told.states ≡ length rule.states
  pub fitted : FittedAll price rule trees (told_costs told)
  pub implements : ImplementsAll rule trees
  -- there are sets of its live and its safe states, and its release state
  pub kinds : (live : ℕ) × ((safe : ℕ) × ((release : ℕ) × Kinds rule live safe release))
  -- the nodes are, one by one, the layout of the trees, and behind them the rest as it was
  pub behind_is : told.behind ≡ length (layout trees)
  pub within : told.behind ≤ 4064
  pub nodes : after ≡ layout trees ++ drop told.behind before
  -- each tree stands at the top place told
  pub tops_are : (q : ℕ) → q < length rule.states → slice_index (told_tops told) q ≡ top_of trees q
  pub stands : (q : ℕ) → q < length rule.states → Stands after (slice_index (told_tops told) q) (tree_of trees q)
  -- past the states costs and tops are 0
  pub past : (q : ℕ) → length rule.states ≤ q → slice_index_or told.trees q no_tree ≡ no_tree

-- fitting is refused where there are fewer than 4,064 nodes, with nothing written, and only there
abbrev pub Answered : Price → Rule → List Node → List Node → Result Fitting FitRefusal → Type 0
Answered price rule before after (Ok told) = (4064 ≤ length before) × DraftFitted price rule before after told
Answered price rule before after (Err why) = (length before < 4064) × (why ≡ refusal.FewNodes) × (after ≡ before)
