-- The set kept is that of the safe states.
use Rattle.std.proofs.Common.{ℕ, ◌↔◌, sym, subst}
use Rattle.events.specs.Sets.{◌∈◌}
use Rattle.rules.specs.automata.Runs.{Safe}
use Rattle.pruning.specs.Drafts.{rule_of}
use Rattle.pruning.proofs.DraftLaws.{draft_well}
use Rattle.pruning.proofs.SafeLaws.{safe_right}
use Rattle.pruning.proofs.Pruning.safe.Goals as goal

pub returns : goal.returns
returns c q =
    let p = c.args.self.now in
    let d = p.draft.now in
    subst (λ (s : ℕ). (q ∈ s) ↔ Safe (rule_of d) q) (sym p.safe_is) (safe_right (rule_of d) (draft_well d) q)
