-- The rounds are those of the widening.
use Rattle.std.proofs.Common.{rules}
use Rattle.pruning.specs.Computed.{entry, widened, reaching}
use Rattle.pruning.proofs.live.Edges.reaching.Goals as goal

pub returns : goal.returns
unfolding reaching
returns c = c.settle.ensures (widened (entry c.args.self.now)) (λ set next l h. search rules)
