-- The set is the pruned set.
use Rattle.std.proofs.Common.{sym, subst, arith}
use Rattle.rules.specs.automata.Pruning.{IsPrunedSet}
use Rattle.pruning.specs.Drafts.{rule_of}
use Rattle.pruning.proofs.DraftLaws.{draft_well}
use Rattle.pruning.proofs.SafeLaws.{pruned_right, pruned_past}
use Rattle.pruning.proofs.Pruning.set_at.Goals as goal

pub returns-then-event-lt-EVENTS : goal.returns-then-event-lt-EVENTS
returns-then-event-lt-EVENTS c =
    let d = c.args.self.now.draft.now in
    let is = subst (IsPrunedSet (rule_of d) c.args.state c.args.event) (sym c.pruned_set.ensures) (pruned_right (rule_of d) (draft_well d) c.args.state c.args.event) in
    record {
      pruned = λ _. is;
      none = λ h. absurd (omega arith);
      past = λ h. pruned_past (rule_of d) (draft_well d) c.args.state c.args.event _ h is;
    }
