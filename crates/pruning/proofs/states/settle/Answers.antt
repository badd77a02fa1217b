-- Each round is one more, and one that changes nothing is the last.
use Rattle.pruning.proofs.RoundLaws.{rounds_done, rounds_all}
use Rattle.pruning.proofs.states.settle.Goals as goal

pub returns-then-next-set : goal.returns-then-next-set
returns-then-next-set g c = rounds_done _ _ _ _ c.loop-round.invariant c.step-next.result c.step-next.ensures c.if-next-set.true c.loop-round-test.true

pub returns : goal.returns
returns g c = rounds_all _ _ _ _ c.loop-round.invariant c.loop-round-test.false c.loop-round.auto._round-end
