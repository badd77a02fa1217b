-- A safe state leads to the release state's set, and a state that is not live to nothing.
use Rattle.std.proofs.Common.{sym, ◌∙◌}
use Rattle.pruning.specs.Drafts.{rule_of}
use Rattle.pruning.proofs.DraftLaws.{draft_well}
use Rattle.pruning.proofs.SafeLaws.{safe_state}
use Rattle.pruning.proofs.SelectLaws.{pruned_safe, pruned_dead}
use Rattle.pruning.proofs.Pruning.steady_set.Goals as goal

pub released_set-requires : goal.released_set-requires
released_set-requires c =
    let p = c.args.self.now in
    safe_state (rule_of p.draft.now) (draft_well p.draft.now) p.safe c.args.state p.safe_is (sym c.holds.ensures ∙ c.if-holds.true)

pub returns-then-holds : goal.returns-then-holds
returns-then-holds c e =
    let p = c.args.self.now in
    pruned_safe (rule_of p.draft.now) p.safe c.args.state e _ p.safe_is (sym c.holds.ensures ∙ c.if-holds.true) c.released_set.ensures

pub returns-else-holds-2 : goal.returns-else-holds-2
returns-else-holds-2 c e =
    let p = c.args.self.now in
    pruned_dead (rule_of p.draft.now) p.live p.safe c.args.state e p.live_is p.safe_is (sym c.holds.ensures ∙ c.if-holds.false) (sym c.holds-2.ensures ∙ c.if-holds-2.false)
