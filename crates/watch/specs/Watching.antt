-- A call of a watch over a plan, and a watch newly armed.
use Rattle.std.specs.Prelude.{ℕ, List, [], Result}
use Rattle.rules.specs.declared.Snapshot.{Snapshot}
use Rattle.rules.specs.declared.Call.{Call}
use Rattle.rules.specs.declared.Refusal.{Refusal}
use Rattle.rules.specs.declared.Answer.{Answer}
use Rattle.rules.specs.watch.Promises.{After, Called}
use Rattle.fitting.specs.declared.plan.Plan.{Plan}
use Rattle.fitting.specs.Plans.{plan_rule, plan_trees}

-- the call's answer is right, and the watch and its source are then as they should be: see `Called`
unfoldable pub CalledOn : Plan → Call → Snapshot → List ℕ → Result Answer Refusal → Snapshot → List ℕ → Type 0
CalledOn plan = Called (plan_rule plan) (plan_trees plan)

-- a watch newly armed: it stands after no event
unfoldable pub ArmedOn : Plan → Snapshot → Type 0
ArmedOn plan s = After (plan_rule plan) (plan_trees plan) [] s

-- the release state of a plan, as a set
abbrev pub release_of : Plan → ℕ
release_of plan = plan.sets.release
