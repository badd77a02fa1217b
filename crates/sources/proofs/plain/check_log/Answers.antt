-- The fault is at the first byte that is no event.
use Rattle.std.proofs.Common.{sym}
use Rattle.sources.proofs.PlainBytes.{log_taken, log_fault, log_exact_at}
use Rattle.sources.proofs.plain.check_log.Goals as goal

pub returns-in-Some : goal.returns-in-Some
returns-in-Some c =
    let bytes = c.args.bytes.now in
    let e = sym (log_fault 0 bytes c.in-Some.place (sym c.in-Some.ensures)) in
    record { fault = e; exact = log_exact_at bytes _ e }

pub returns-in-None : goal.returns-in-None
returns-in-None c =
    let bytes = c.args.bytes.now in
    let e = sym (log_taken 0 bytes (sym c.in-None.ensures)) in
    record { fault = e; exact = log_exact_at bytes _ e }
