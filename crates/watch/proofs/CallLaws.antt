-- What each call answers, from what it is asked and what the watch keeps.
use Rattle.std.proofs.Common.{ℕ, List, []}
use Rattle.std.specs.Prelude.{Ok}
use Rattle.rules.specs.declared.Snapshot.{Snapshot}
use Rattle.rules.specs.declared.Call.TheVariants as call
use Rattle.rules.specs.declared.Answer.TheVariants as answer
use Rattle.rules.specs.watch.Calls as calls
use Rattle.rules.proofs.watch.CalledLaws.{called_look}
use Rattle.fitting.specs.declared.plan.Plan.{Plan}
use Rattle.fitting.specs.Plans.{plan_rule, plan_trees}
use Rattle.fitting.proofs.PlanLaws.{plan_sound}
use Rattle.watch.specs.Watching.{CalledOn, ArmedOn}

-- a look
pub look_called : (plan : Plan) (s : Snapshot) (coming : List ℕ) → CalledOn plan call.Look s coming (Ok (answer.Shown (record { verdict = s.verdict; count = s.count }))) s coming
unfolding CalledOn
look_called plan s = called_look (plan_rule plan) (plan_trees plan) (plan_sound plan) s

-- beginning again
pub rearm_called : (plan : Plan) (s s' : Snapshot) (coming : List ℕ) → ArmedOn plan s' → CalledOn plan call.Rearm s coming (Ok answer.Armed) s' coming
unfolding CalledOn ArmedOn
rearm_called plan s s' coming armed es h = ([], calls.Rearming.armed, armed)
