-- The theorems that stand on the definitions alone, as statements.
use Rattle.std.specs.Prelude.{◌≡◌, ℕ, ◌<◌, ◌≤◌, ◌↔◌, List, ◌++◌, length, take, Result}
use Rattle.std.specs.List.{AllByRecursion}
use Rattle.events.specs.Sets.{◌∈◌}
use Rattle.rules.specs.declared.Line.{Line}
use Rattle.rules.specs.declared.Node.{Node}
use Rattle.rules.specs.declared.Verdict.{Verdict}
use Rattle.rules.specs.declared.Verdict.TheVariants as verdict
use Rattle.rules.specs.declared.Call.{Call}
use Rattle.rules.specs.declared.Refusal.{Refusal}
use Rattle.rules.specs.declared.Answer.{Answer}
use Rattle.rules.specs.automata.Rules.{Rule, WellFormed, Event}
use Rattle.rules.specs.automata.Runs.{Ending, NoEnding, Live, Reaches, ReachesLive, ReachesSafe}
use Rattle.rules.specs.automata.Pruning.{Release, IsPrunedSet, Wants, selected, Kinds, pruned_moves}
use Rattle.rules.specs.trees.Trees.{Tree, PollsOnce, Serves, Implements}
use Rattle.rules.specs.trees.Layouts.{size_of, layout, top_of, Stands}
use Rattle.rules.specs.trees.Costs.{Price, Lawful, expected, worst, cost_of, mean_cost, IsTrillionfold}
use Rattle.rules.specs.trees.Bests.{Bests, BestTree, Fitted}
use Rattle.rules.specs.watch.Verdicts.{Shows}
use Rattle.rules.specs.watch.Holding.{tree_of, polls_of, SafeDecided, Sound, Held, Watches}
use Rattle.rules.specs.watch.Promises.{FittedAll, Promise}

-- ---- endings

-- events have an ending exactly when some run over them, from a start state, ends in a live state
abbrev pub EndingsReachLive : Type 0
EndingsReachLive = (rule : Rule) (es : List ℕ) → Ending rule es ↔ ReachesLive rule es

-- events that a run leads to a safe state have an ending, however they go on
abbrev pub SafeKeepsEndings : Type 0
SafeKeepsEndings = (rule : Rule) (es more : List ℕ) → AllByRecursion (Event rule) more → ReachesSafe rule es → Ending rule (es ++ more)

-- events with no ending have none however they go on
abbrev pub NoEndingStays : Type 0
NoEndingStays = (rule : Rule) (es more : List ℕ) → AllByRecursion (Event rule) more → NoEnding rule es → NoEnding rule (es ++ more)

-- ---- pruned moves

-- a pruned set is determined
abbrev pub PrunedDetermined : Type 0
PrunedDetermined = (rule : Rule) (q e a b : ℕ) → IsPrunedSet rule q e a → IsPrunedSet rule q e b → a ≡ b

-- what an event selects from the pruned moves of a state is its pruned set
abbrev pub SelectedPruned : Type 0
SelectedPruned =
    (rule : Rule) (live safe release : ℕ) → Kinds rule live safe release
    → (q e : ℕ) → IsPrunedSet rule q e (selected (pruned_moves rule live safe release q) e)

-- a tree serves a state exactly when it implements the state's pruned moves
abbrev pub ServesImplements : Type 0
ServesImplements =
    (rule : Rule) (live safe release : ℕ) → Kinds rule live safe release
    → (q : ℕ) (t : Tree) → Serves rule q t ↔ Implements t (pruned_moves rule live safe release q)

-- ---- fitted trees

-- by any lawful measure, the best tree of a state is what fitting promises, at the best cost of cell 0
abbrev pub BestFitted : Type 0
BestFitted =
    (price : Price) (rule : Rule) (q : ℕ) (wants best line : ℕ → ℕ) → Lawful price → WellFormed rule → Wants rule q wants
    → Bests price rule.lines wants best line → (t : Tree) → BestTree wants line 0 t → Fitted price rule q t (best 0)

-- a state's fitted tree and its cost are determined
abbrev pub FittedDetermined : Type 0
FittedDetermined =
    (price : Price) (rule : Rule) (q : ℕ) (t t' : Tree) (cost cost' : ℕ)
    → Fitted price rule q t cost → Fitted price rule q t' cost' → (t ≡ t') × (cost ≡ cost')

-- both measures are lawful
abbrev pub MeasuresLawful : Type 0
MeasuresLawful = Lawful expected × Lawful worst

-- the expected cost of a tree that polls no line twice is 10 ^ 12 times its mean cost
abbrev pub ExpectedIsMean : Type 0
ExpectedIsMean = (lines : List Line) (t : Tree) → PollsOnce 0 t → IsTrillionfold (mean_cost lines t) (cost_of expected lines 6 t)

-- ---- trees in a list of nodes

-- a tree that polls no line twice takes at most 127 nodes
abbrev pub TreesSmall : Type 0
TreesSmall = (t : Tree) → PollsOnce 0 t → size_of t ≤ 127

-- laid out trees stand at their tops
abbrev pub LayoutStands : Type 0
LayoutStands = (trees : List Tree) (q : ℕ) → q < length trees → Stands (layout trees) (top_of trees q) (tree_of trees q)

-- the nodes determine the tree that stands at a place
abbrev pub StandsDetermined : Type 0
StandsDetermined = (nodes : List Node) (t t' : Tree) (place : ℕ) → Stands nodes place t → Stands nodes place t' → t ≡ t'

-- ---- verdicts

-- the verdict that a watch keeps, read from the held sets alone, is the one to be shown
abbrev pub VerdictShown : Type 0
VerdictShown =
    (rule : Rule) (trees : List Tree) → Sound rule trees → (es : List ℕ) → AllByRecursion (Event rule) es
    → (set : ℕ) (v : Verdict) → Watches rule trees es set v → Shows rule es v

-- what the set held after the events es means
pub record SetSays (rule : Rule) (es : List ℕ) (set : ℕ) : Type 0 where
  -- nothing is held just when there is no ending
  pub empty : (set ≡ 0) ↔ NoEnding rule es
  -- the release state is held just when some of the first events can have reached a safe state
  pub released : (r : ℕ) → Release rule r → (r ∈ set) ↔ ((k : ℕ) × (k ≤ length es) × ReachesSafe rule (take k es))
  -- until then the live states that can have been reached are held
  pub members : ((k : ℕ) → k ≤ length es → ReachesSafe rule (take k es) → ⊥) → (t : ℕ) → (t ∈ set) ↔ (Live rule t × Reaches rule es t)

-- the held set means so
abbrev pub HeldMeans : Type 0
HeldMeans =
    (rule : Rule) (trees : List Tree) → Sound rule trees → (es : List ℕ) → AllByRecursion (Event rule) es
    → (set : ℕ) → Held rule trees es set → SetSays rule es set

-- the trees of a fitted rule serve its states
abbrev pub FittedSound : Type 0
FittedSound =
    (price : Price) (rule : Rule) (trees : List Tree) (costs : List ℕ) → WellFormed rule → SafeDecided rule
    → FittedAll price rule trees costs → Sound rule trees

-- once CLEAR, a watch of fitted trees polls nothing
abbrev pub ClearPollsNothing : Type 0
ClearPollsNothing =
    (price : Price) (rule : Rule) (trees : List Tree) (costs : List ℕ) → WellFormed rule → SafeDecided rule → FittedAll price rule trees costs
    → (es : List ℕ) (held i e : ℕ) → AllByRecursion (Event rule) es → Watches rule trees es held (verdict.ClearSince i) → polls_of trees held e ≡ 0

-- ---- the whole promise

-- the promise has one outcome: trees, costs, answers and what is left in the source are determined
abbrev pub PromiseDetermined : Type 0
PromiseDetermined =
    (price : Price) (rule : Rule) (trees trees' : List Tree) (costs costs' : List ℕ) (calls : List Call) (coming : List ℕ)
    (answers answers' : List (Result Answer Refusal)) (left left' : List ℕ) → AllByRecursion (Event rule) coming
    → Promise price rule trees costs calls coming answers left → Promise price rule trees' costs' calls coming answers' left'
    → (trees ≡ trees') × (costs ≡ costs') × (answers ≡ answers') × (left ≡ left')

-- the promise can be kept, by any lawful measure, for a well-formed rule whose live and safe states are at hand
abbrev pub PromiseKept : Type 0
PromiseKept =
    (price : Price) (rule : Rule) (live safe release : ℕ) → Lawful price → WellFormed rule → Kinds rule live safe release
    → (calls : List Call) (coming : List ℕ)
    → (trees : List Tree) × ((costs : List ℕ) × ((answers : List (Result Answer Refusal)) × ((left : List ℕ) × Promise price rule trees costs calls coming answers left)))
