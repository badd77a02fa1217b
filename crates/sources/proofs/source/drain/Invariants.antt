-- What was counted and what is left give the whole, up to the largest number.
use Rattle.std.proofs.Common.{◌≡◌, ◌+◌, ◌-◌, ◌^◌, ◌≤◌, min, length}
use Rattle.sources.proofs.source.drain.Given as goal

abbrev pub invariant-loop-count : goal.invariant-loop-count
invariant-loop-count g l =
    (min (l.count + length (g.S.LineSource.events l.source)) (2 ^ 64 - 1) ≡ min (length (g.S.LineSource.events l.initial.source)) (2 ^ 64 - 1))
    × (l.count ≤ 2 ^ 64 - 1)

abbrev pub decreases-loop-count : goal.decreases-loop-count
decreases-loop-count g l = length (g.S.LineSource.events l.source)
