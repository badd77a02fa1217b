-- The loop over the moves.
use Rattle.pruning.proofs.LoopLaws.{Targets}
use Rattle.pruning.proofs.live.Edges.of.Given as goal

abbrev pub invariant-loop-m : goal.invariant-loop-m
invariant-loop-m l = Targets l.m-items l.m-index l.masks
