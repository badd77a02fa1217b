-- The moves of a draft are in range.
use Rattle.std.proofs.Common.{sym, subst}
use Rattle.pruning.specs.Computed.{Ranged}
use Rattle.pruning.proofs.DraftLaws.{draft_ranged}
use Rattle.pruning.proofs.moves.Moves.of.Goals as goal

pub invariant_of-result : goal.invariant_of-result
invariant_of-result c = record { ranged = subst Ranged (sym c.moves.ensures) (draft_ranged c.args.draft.now) }
