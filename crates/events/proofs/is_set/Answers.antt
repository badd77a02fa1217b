-- Bit `member` of the set, moved down to bit 0.
use Rattle.events.proofs.SetLaws.{has_test}
use Rattle.events.proofs.is_set.Goals as goal

pub returns : goal.returns
returns c = has_test c.args.set c.args.member
