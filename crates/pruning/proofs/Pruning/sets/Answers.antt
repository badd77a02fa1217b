-- Each set is the pruned set.
use Rattle.std.proofs.Common.{ℕ, ◌<◌, get_or, sym, subst}
use Rattle.rules.specs.automata.Pruning.{IsPrunedSet}
use Rattle.pruning.specs.Drafts.{rule_of}
use Rattle.pruning.proofs.DraftLaws.{draft_well}
use Rattle.pruning.proofs.SafeLaws.{pruned_right, pruned_past}
use Rattle.pruning.proofs.Pruning.sets.Goals as goal

pub returns : goal.returns
returns c =
    let d = c.args.self.now.draft.now in
    let is : (e : ℕ) → e < 64 → IsPrunedSet (rule_of d) c.args.state e (get_or c.pruned_sets.result e 0) =
    λ e l. subst (IsPrunedSet (rule_of d) c.args.state e) (sym (c.pruned_sets.ensures e l)) (pruned_right (rule_of d) (draft_well d) c.args.state e) in
    record { pruned = is; past = λ h e l. pruned_past (rule_of d) (draft_well d) c.args.state e _ h (is e l) }
