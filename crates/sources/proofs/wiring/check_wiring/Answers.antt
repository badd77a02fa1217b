-- The check is right.
use Rattle.std.proofs.Common.{sym, arith}
use Rattle.sources.proofs.Rewiring.{wiring_exact, refused_fits}
use Rattle.sources.proofs.wiring.check_wiring.Goals as goal

pub returns : goal.returns
returns c =
    let e = refused_fits c.args.entries c.args.turned (sym c.if-is_fitting.ensures) in
    record { answer = e; exact = wiring_exact c.args.entries c.args.turned _ (omega arith) e }
