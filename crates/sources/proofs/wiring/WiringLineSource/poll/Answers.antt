-- A line is the line below that its entry names, turned over if it is in the turned set.
use Rattle.std.proofs.Common.{arith}
use Rattle.sources.proofs.Rewiring.{poll_through}
use Rattle.sources.proofs.wiring.WiringLineSource.poll.Goals as goal

pub returns : goal.returns
returns g c =
    let s = c.args.self.now in
    poll_through s.entries s.turned (g.S.LineSource.events s.below) c.args.line c.in_ok-on.on c.is_on.result c.shown.result
    (s.named c.args.line (omega arith)) (omega arith) c.in_ok-on.ensures c.is_on.ensures c.shown.ensures
