-- The trees of every plan stand at their tops, and serve its states.
use Rattle.std.proofs.Common.{◌≡◌, ℕ, get_or, sym, subst, rules}
use Rattle.rules.specs.trees.Layouts.{Stands}
use Rattle.rules.specs.watch.Holding.{tree_of}
use Rattle.fitting.specs.Plans.{plan_trees}
use Rattle.fitting.proofs.PlanLaws.{plan_stands, plan_sound}
use Rattle.fitting.proofs.plan.Plan.top.Goals as goal

pub returns-clause-stands : goal.returns-clause-stands
returns-clause-stands c h =
    let p = c.args.self.now in
    let is : c.unwrap_or.result ≡ get_or p.tops c.args.state 0 = search rules in
    subst (λ (at : ℕ). Stands p.nodes.now at (tree_of (plan_trees p) c.args.state)) (sym is) (plan_stands p c.args.state h)

pub returns-clause-sound : goal.returns-clause-sound
returns-clause-sound c = plan_sound c.args.self.now
