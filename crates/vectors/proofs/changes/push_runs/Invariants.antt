-- Each turn lets one event go.
use Rattle.std.proofs.Common.{length}
use Rattle.vectors.proofs.changes.push_runs.Given as goal

abbrev pub decreases-loop-event : goal.decreases-loop-event
decreases-loop-event g l = length (g.S.LineSource.events l.source)
