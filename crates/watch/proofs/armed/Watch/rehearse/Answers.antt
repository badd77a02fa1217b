-- The ways out of a rehearsal, after each of which the watch is as it was.
use Rattle.std.proofs.Common.{arith}
use Rattle.watch.proofs.TrialLaws.{unbroken, trial_none, trial_more, trial_no_event, trial_breach, trial_all}
use Rattle.watch.proofs.armed.Watch.rehearse.Goals as goal

pub loop-i-init : goal.loop-i-init
loop-i-init c = grind (arith, trial_none, unbroken)

pub returns-in_default-tried-clause-rehearsed : goal.returns-in_default-tried-clause-rehearsed
returns-in_default-tried-clause-rehearsed c coming =
    trial_no_event _ _ _ _ _ _ _ c.drop-trial.ensures c.loop-i.invariant.tried c.loop-i.invariant.unbroken c.loop-i-test.true c.in_default-tried.ensures.none

pub returns-in-BreachAt-clause-rehearsed : goal.returns-in-BreachAt-clause-rehearsed
returns-in-BreachAt-clause-rehearsed c coming =
    let next = trial_more _ _ _ _ _ c.loop-i.invariant.tried _ c.loop-i.invariant.unbroken c.loop-i-test.true c.in-Some.ensures.event c.in-Some.ensures.tried in
    trial_breach _ _ _ _ _ _ _ c.drop-trial-in-BreachAt.ensures next _ c.in-BreachAt.is

pub returns-clause-rehearsed : goal.returns-clause-rehearsed
returns-clause-rehearsed c coming =
    trial_all _ _ _ _ _ _ _ c.drop-trial-2.ensures c.loop-i.invariant.tried _ c.loop-i.invariant.unbroken c.loop-i.auto.i-end c.loop-i-test.false c.word.ensures
