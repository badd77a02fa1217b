-- With no room for records the check refuses, so the draft is the empty one.
use Rattle.fitting.proofs.OneState.{contents_rule, none_agrees}
use Rattle.fitting.proofs.plan.make.one_state_draft.Goals as goal

pub returns : goal.returns
returns c =
    let is = c.make_draft.ensures.refused none_agrees in
    record { contents = is; rule = contents_rule c.make_draft.result is }
