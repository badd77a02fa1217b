-- The set holds the members that can go on inside it.
use Rattle.std.proofs.Common.{rules}
use Rattle.pruning.specs.Computed.{kept}
use Rattle.pruning.proofs.LoopLaws.{set_is}
use Rattle.pruning.proofs.moves.Moves.kept.Goals as goal

pub returns : goal.returns
unfolding kept
returns c = set_is 32 _ _ c.states_where.type_inv (λ q l. let h = c.states_where.ensures q l in search rules)
