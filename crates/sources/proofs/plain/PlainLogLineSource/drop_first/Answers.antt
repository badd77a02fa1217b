-- One place on, the list is without its first event.
use Rattle.std.proofs.Common.{arith}
use Rattle.sources.proofs.Places.{later_at}
use Rattle.sources.proofs.plain.PlainLogLineSource.drop_first.Goals as goal

pub returns-clause-after : goal.returns-clause-after
returns-clause-after c = rw (c.advance.ensures.place, c.advance.ensures.bytes) (later_at c.args.self.now.bytes.now c.args.self.now.place (omega arith))
