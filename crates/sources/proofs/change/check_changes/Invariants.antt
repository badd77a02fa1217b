-- The pairs from the place on are judged as the whole log is.
use Rattle.std.proofs.Common.{◌≡◌, ◌-◌, length}
use Rattle.sources.specs.ChangeLogs.{checked_pairs, pairs_from}
use Rattle.sources.proofs.change.check_changes.Given as goal

abbrev pub invariant-loop-reader : goal.invariant-loop-reader
invariant-loop-reader l = (checked_pairs (pairs_from l.bytes l.reader.at) ≡ checked_pairs (pairs_from l.bytes 0)) × (l.reader.bytes ≡ l.initial.reader.bytes)

abbrev pub decreases-loop-reader : goal.decreases-loop-reader
decreases-loop-reader l = length l.bytes - l.reader.at
