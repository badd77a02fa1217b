-- The loop over the states.
use Rattle.pruning.proofs.LoopLaws.{Tried}
use Rattle.pruning.proofs.states.states_where.Given as goal

abbrev pub invariant-loop-q : goal.invariant-loop-q
invariant-loop-q g l = Tried (goal.F-post g l.test) l.q l.set
