-- The leaf of the empty set is the tree of the one state.
use Rattle.std.proofs.Common.{replicate, sym, subst, ◌∙◌}
use Rattle.rules.specs.automata.Rules.{Rule}
use Rattle.fitting.specs.Reading.{Walkable, GivesPruned}
use Rattle.fitting.specs.Plans.{one_leaf}
use Rattle.fitting.proofs.OneState.{one_walkable, one_gives}
use Rattle.fitting.proofs.PlanLaws.{one_plan}
use Rattle.fitting.proofs.plan.make.one_state_plan.Goals as goal

pub plan_of-requires : goal.plan_of-requires
plan_of-requires c =
    let is = c.one_state_draft.ensures.rule in
    record {
      walkable = subst (λ (r : Rule). Walkable r one_leaf (replicate 32 0)) (sym is) one_walkable;
      pruned = subst (λ (r : Rule). GivesPruned r one_leaf (replicate 32 0)) (sym is) one_gives;
    }

pub returns-clause-plan : goal.returns-clause-plan
returns-clause-plan c price law = one_plan price law c.plan_of.result (c.plan_of.ensures.draft ∙ c.one_state_draft.ensures.contents) c.plan_of.ensures.nodes c.plan_of.ensures.tops
