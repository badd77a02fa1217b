-- What a plan is, and when its making takes the nodes.
use Rattle.std.specs.Prelude.{◌≡◌, ℕ, ◌<◌, ◌≤◌, true, false, ◌↔◌, List, [], ◌∷◌, length, replicate, slice_index}
use Rattle.events.specs.Sets.{◌∈◌}
use Rattle.rules.specs.declared.Node.{Node}
use Rattle.rules.specs.declared.Node.TheVariants as node
use Rattle.rules.specs.automata.Rules.{Rule, Starts}
use Rattle.rules.specs.automata.Runs.{Live, Safe}
use Rattle.rules.specs.trees.Trees.{Tree}
use Rattle.rules.specs.trees.Layouts.{top_of, Stands}
use Rattle.rules.specs.trees.Costs.{Price}
use Rattle.rules.specs.watch.Holding.{tree_of, ReleaseSet}
use Rattle.rules.specs.watch.Promises.{FittedAll}
use Rattle.pruning.specs.Drafts.{rule_of}
use Rattle.fitting.specs.declared.fit.Fitting.{Fitting}
use Rattle.fitting.specs.declared.plan.Plan.{Plan}
use Rattle.fitting.specs.Fits.{DraftFitted}
use Rattle.fitting.specs.Reading.{read_trees}

-- fitting takes the nodes and would leave them as they are
pub record AsFitted (price : Price) (rule : Rule) (nodes : List Node) (told : Fitting) : Type 0 where
  pub room : 4064 ≤ length nodes
  pub fit : DraftFitted price rule nodes nodes told

-- the rule of a plan
abbrev pub plan_rule : Plan → Rule
plan_rule plan = rule_of plan.draft

-- the trees of a plan's states
abbrev pub plan_trees : Plan → List Tree
plan_trees plan = read_trees (rule_of plan.draft) plan.nodes.now plan.tops

-- a plan of a rule over nodes into which the rule was fitted by a measure
pub record PlanOf (price : Price) (rule : Rule) (nodes : List Node) (plan : Plan) : Type 0 where
  pub rule_is : rule_of plan.draft ≡ rule
  pub nodes_are : plan.nodes.now ≡ nodes
  -- the trees are fitted to the rule, and each stands at its top, which is its place in the layout
  pub costs : List ℕ
  pub fitted : FittedAll price rule (plan_trees plan) costs
  pub stands : (q : ℕ) → q < length rule.states → Stands nodes (slice_index plan.tops q) (tree_of (plan_trees plan) q)
  pub tops_are : (q : ℕ) → q < length rule.states → slice_index plan.tops q ≡ top_of (plan_trees plan) q
  -- the lines, and the sets of states
  pub lines_are : plan.lines ≡ rule.lines
  pub live_is : (q : ℕ) → (q ∈ plan.sets.live) ↔ Live rule q
  pub safe_is : (q : ℕ) → (q ∈ plan.sets.safe) ↔ Safe rule q
  pub starts_are : (q : ℕ) → (q ∈ plan.sets.starts) ↔ Starts rule q
  pub release_is : ReleaseSet rule plan.sets.release

-- ---- the one-state plan

-- the rule of the empty draft: one start state, which accepts nothing, and no moves; the six lines cost 1 and are never on
abbrev pub one_state : Rule
one_state = record { lines = replicate 6 (record { cost = 1; chance = 0 }); states = record { start = true; accepting = false } ∷ []; moves = [] }

-- the leaf of the empty set
abbrev pub one_leaf : List Node
one_leaf = node.Leaf 0 ∷ []
