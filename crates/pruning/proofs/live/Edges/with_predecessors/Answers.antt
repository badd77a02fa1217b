-- The set holds the states that lead into it.
use Rattle.std.proofs.Common.{rules}
use Rattle.pruning.specs.Computed.{widened}
use Rattle.pruning.proofs.LoopLaws.{set_is}
use Rattle.pruning.proofs.live.Edges.with_predecessors.Goals as goal

pub returns : goal.returns
unfolding widened
returns c = set_is 32 _ _ c.states_where.type_inv (λ q l. let h = c.states_where.ensures q l in search rules)
