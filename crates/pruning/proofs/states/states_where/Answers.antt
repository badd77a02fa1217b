-- The set holds the states so far that pass.
use Rattle.std.proofs.Common.{subst}
use Rattle.pruning.proofs.LoopLaws.{tried_none, tried_in, tried_out}
use Rattle.pruning.proofs.states.states_where.Goals as goal
use Rattle.pruning.proofs.states.states_where.Goals.{then-test, else-test}

pub loop-q-init : goal.loop-q-init
loop-q-init g c = tried_none _

pub loop-q-preserved : goal.loop-q-preserved
loop-q-preserved g c =
    let P = goal.F-post g c.args.test in
    elim c.if-test.branch [
      | then-test w ↦
          simp (w.set-is, w.only-set.ensures.one c.loop-q-test.true)
          (tried_in P _ _ c.loop-q.invariant (subst (P c.loop-q.q) w.if-test.true c.test.ensures))
      | else-test w ↦ simp w.set-is (tried_out P _ _ c.loop-q.invariant (subst (P c.loop-q.q) w.if-test.false c.test.ensures))
    ]
