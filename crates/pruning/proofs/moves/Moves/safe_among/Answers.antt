-- The rounds are those that keep what can go on.
use Rattle.std.proofs.Common.{rules}
use Rattle.pruning.specs.Computed.{kept, safe_in}
use Rattle.pruning.proofs.moves.Moves.safe_among.Goals as goal

pub returns : goal.returns
unfolding safe_in
returns c = c.settle.ensures (kept c.args.self.now.all.now) (λ set next l h. search rules)
