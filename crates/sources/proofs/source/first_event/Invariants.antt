-- The lines that were polled are those of the first event, and once one was polled an event waits.
use Rattle.std.proofs.Common.{◌≡◌, ◌<◌, true}
use Rattle.sources.specs.Waiting.{any_waiting, first_of}
use Rattle.sources.proofs.Gather.{lines_below}
use Rattle.sources.proofs.source.first_event.Given as goal

abbrev pub invariant-loop-line : goal.invariant-loop-line
invariant-loop-line g l =
    (l.event ≡ lines_below (first_of (g.S.LineSource.events l.source)) l.line)
    × (0 < l.line → any_waiting (g.S.LineSource.events l.source) ≡ true)
