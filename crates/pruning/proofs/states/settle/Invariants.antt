-- The rounds.
use Rattle.pruning.proofs.RoundLaws.{Rounds}
use Rattle.pruning.proofs.states.settle.Given as goal

abbrev pub invariant-loop-round : goal.invariant-loop-round
invariant-loop-round g l = Rounds (goal.F-post g l.step) l._round l.seed l.set
