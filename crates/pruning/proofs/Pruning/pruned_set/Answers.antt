-- The set is the one selected from the pruned moves.
use Rattle.pruning.specs.Drafts.{rule_of}
use Rattle.pruning.proofs.SelectLaws.{pruned_live}
use Rattle.pruning.proofs.Pruning.pruned_set.Goals as goal

pub returns-in-None : goal.returns-in-None
returns-in-None c =
    let p = c.args.self.now in
    pruned_live (rule_of p.draft.now) p.live p.safe c.args.state c.args.event _ p.live_is p.safe_is c.in-None.ensures.0 c.in-None.ensures.1 c.selected_at.ensures
