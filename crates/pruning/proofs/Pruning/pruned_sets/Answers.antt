-- Each set is the one selected from the pruned moves.
use Rattle.std.proofs.Common.{◌∙◌}
use lib.ListN.{get_or-replicate}
use Rattle.pruning.specs.Drafts.{rule_of}
use Rattle.pruning.proofs.SelectLaws.{pruned_live}
use Rattle.pruning.proofs.Pruning.pruned_sets.Goals as goal

pub returns-in-Some : goal.returns-in-Some
returns-in-Some c e l = get_or-replicate 64 e c.in-Some.set 0 l ∙ c.in-Some.ensures e

pub returns-in-None : goal.returns-in-None
returns-in-None c e l =
    let p = c.args.self.now in
    pruned_live (rule_of p.draft.now) p.live p.safe c.args.state e _ p.live_is p.safe_is c.in-None.ensures.0 c.in-None.ensures.1 (c.selected_sets.ensures e l)
