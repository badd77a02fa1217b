-- The loop over the moves.
use Rattle.pruning.proofs.LoopLaws.{Gathered}
use Rattle.pruning.proofs.SelectLaws.{Selects}
use Rattle.pruning.proofs.Pruning.selected_at.Given as goal

abbrev pub invariant-loop-m : goal.invariant-loop-m
invariant-loop-m l = Gathered 32 (Selects l.self.live l.self.safe l.state l.event) l.m-items l.m-index l.set
