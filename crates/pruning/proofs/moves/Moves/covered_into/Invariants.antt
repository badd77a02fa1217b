-- The loop over the moves.
use Rattle.pruning.proofs.LoopLaws.{Gathered, Covering}
use Rattle.pruning.proofs.moves.Moves.covered_into.Given as goal

abbrev pub invariant-loop-m : goal.invariant-loop-m
invariant-loop-m l = Gathered 64 (Covering l.state l.set) l.m-items l.m-index l.events
