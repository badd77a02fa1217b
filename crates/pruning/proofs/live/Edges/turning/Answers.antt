-- The set holds the accepting states that moves lead back to.
use Rattle.std.proofs.Common.{rules}
use Rattle.pruning.specs.Computed.{turning}
use Rattle.pruning.proofs.LoopLaws.{set_is}
use Rattle.pruning.proofs.live.Edges.turning.Goals as goal

pub returns : goal.returns
unfolding turning
returns c = set_is 32 _ _ c.states_where.type_inv (λ q l. let h = c.states_where.ensures q l in search rules)
