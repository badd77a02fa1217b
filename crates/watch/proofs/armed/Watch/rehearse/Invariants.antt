-- After each event the trial keeps what the watch would keep.
use Rattle.watch.proofs.TrialLaws.{Trial, Unbroken}
use Rattle.watch.proofs.armed.Watch.rehearse.Given as goal

abbrev pub invariant-loop-i : goal.invariant-loop-i
invariant-loop-i l = record {
  tried : Trial l.plan l.initial.trial.state.now l.events l.i l.trial.state.now;
  unbroken : Unbroken l.trial.state.now.verdict;
}
