-- The nodes are as fitting leaves them, or the plan is that of the one-state draft.
use Rattle.std.proofs.Common.{sym, ◌∙◌, subst}
use Rattle.pruning.specs.Drafts.{rule_of}
use Rattle.pruning.proofs.DraftLaws.{draft_well}
use Rattle.fitting.specs.Reading.{Walkable, GivesPruned}
use Rattle.fitting.proofs.OneState.{contents_same}
use Rattle.fitting.proofs.PlanLaws.{plan_is}
use Rattle.fitting.proofs.ReadLaws.{fit_walkable, fit_gives}
use Rattle.fitting.proofs.plan.make.make_plan.Goals as goal

pub returns-in_default-clause-taken : goal.returns-in_default-clause-taken
returns-in_default-clause-taken g c told is = absurd (c.in_default.ensures told is)

pub returns-in_default-clause-refused : goal.returns-in_default-clause-refused
returns-in_default-clause-refused g c _ = (
  c.one_state_plan.ensures.contents,
  c.one_state_plan.ensures.plan (g.M.Measure.price c.args.measure.now)
      (record { rises = g.met.M.Measure.rises c.args.measure.now; bounded = g.met.M.Measure.bounded c.args.measure.now }),
)

pub plan_of-requires-clause-walkable : goal.plan_of-requires-clause-walkable
plan_of-requires-clause-walkable g c =
    subst (Walkable (rule_of c.args.draft) c.args.nodes.now) (sym c.tops.ensures) (fit_walkable _ _ _ _ _ c.in-Some.ensures.fit)

pub plan_of-requires-clause-pruned : goal.plan_of-requires-clause-pruned
plan_of-requires-clause-pruned g c =
    subst (GivesPruned (rule_of c.args.draft) c.args.nodes.now) (sym c.tops.ensures) (fit_gives _ _ _ _ _ c.in-Some.ensures.fit (draft_well c.args.draft))

pub returns-clause-taken : goal.returns-clause-taken
returns-clause-taken g c _ _ = (
  c.plan_of.ensures.draft,
  plan_is _ _ _ _ c.in-Some.ensures.fit c.plan_of.result (contents_same c.plan_of.result.draft c.args.draft c.plan_of.ensures.draft) c.plan_of.ensures.nodes (c.plan_of.ensures.tops ∙ c.tops.ensures),
)
