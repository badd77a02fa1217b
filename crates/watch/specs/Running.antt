-- What a run comes to: a draft fitted, its plan armed, and a list of calls made of the watch.
use Rattle.std.specs.Prelude.{◌≡◌, ℕ, ◌<◌, ◌≤◌, min, List, [], length, take, drop, Ok, Err, Result}
use Rattle.std.specs.List.{AllByRecursion}
use Rattle.rules.specs.declared.Node.{Node}
use Rattle.rules.specs.declared.Call.{Call}
use Rattle.rules.specs.declared.Refusal.{Refusal}
use Rattle.rules.specs.declared.Answer.{Answer}
use Rattle.rules.specs.automata.Rules.{Rule, Event}
use Rattle.rules.specs.trees.Costs.{Price}
use Rattle.rules.specs.watch.Calls.{CallsAll}
use Rattle.rules.specs.watch.Promises.{Promise}
use Rattle.fitting.specs.declared.fit.FitRefusal.{FitRefusal}
use Rattle.fitting.specs.declared.fit.FitRefusal.TheVariants as refusal
use Rattle.fitting.specs.Fits.{DraftFitted, told_costs}
use Rattle.fitting.specs.declared.plan.Plan.{Plan}
use Rattle.fitting.specs.Plans.{plan_rule, plan_trees}
use Rattle.watch.specs.declared.run.Ran.{Ran}

-- the lists that a run is lent, as they were and as they are afterwards
pub record Lent : Type 0 where
  pub nodes : List Node
  pub answers : List (Result Answer Refusal)
  -- the events that the source has still to come
  pub coming : List ℕ

abbrev pub lent : List Node → List (Result Answer Refusal) → List ℕ → Lent
lent nodes answers coming = record { nodes = nodes; answers = answers; coming = coming }

-- calls made of a watch newly armed over a plan, with their answers, and what is left in its source
abbrev pub CallsMade : Plan → List Call → List ℕ → List (Result Answer Refusal) → List ℕ → Type 0
CallsMade plan calls coming answers left = (taken : List ℕ) × CallsAll (plan_rule plan) (plan_trees plan) calls [] coming answers taken left

-- a run that is not refused
pub record Watched (price : Price) (rule : Rule) (calls : List Call) (before after : Lent) (ran : Ran) : Type 0 where
  pub room : 4064 ≤ length before.nodes
  -- fit gives the trees of a plan, laid out in the nodes, and tells what they cost
  pub fitted : DraftFitted price rule before.nodes after.nodes ran.told
  -- the source's list is one of events that can come, so what is said of such lists is said of it
  pub comes : AllByRecursion (Event rule) before.coming
  -- as many calls are made as there is room for answers
  pub made_is : ran.made ≡ min (length calls) (length before.answers)
  -- the whole promise, of the trees that were fitted, the costs that were told, the calls that were made, and their answers
  pub promise : Promise price rule fitted.trees (told_costs ran.told) (take ran.made calls) before.coming (take ran.made after.answers) after.coming
  -- the rest of the list of answers is as it was
  pub rest : drop ran.made after.answers ≡ drop ran.made before.answers

-- a run is refused where fitting is, and everything is then as it was
abbrev pub RunAnswered : Price → Rule → List Call → Lent → Lent → Result Ran FitRefusal → Type 0
RunAnswered price rule calls before after (Ok ran) = Watched price rule calls before after ran
RunAnswered price rule calls before after (Err why) = (length before.nodes < 4064) × (why ≡ refusal.FewNodes) × (after ≡ before)
