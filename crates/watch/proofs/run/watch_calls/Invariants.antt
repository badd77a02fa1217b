-- The calls made so far have their answers, the rest of the list is as it was, and the calls that are left are still to be made.
use Rattle.std.proofs.Common.{◌≡◌, ◌≤◌, length, drop}
use Rattle.std.specs.Slice.Iter.{iter_rest}
use Rattle.rules.proofs.watch.CalledLaws.{CalledSome}
use Rattle.fitting.specs.Plans.{plan_rule, plan_trees}
use Rattle.watch.proofs.run.watch_calls.Given as goal

abbrev pub invariant-loop-answer : goal.invariant-loop-answer
invariant-loop-answer g l = record {
  called : CalledSome (plan_rule l.plan) (plan_trees l.plan) l.calls (g.S.LineSource.events l.initial.source) l.answers l.answer-index l.watch.state (g.S.LineSource.events l.source);
  same_plan : l.watch.plan.now ≡ l.plan;
  kept : drop l.answer-index l.answers ≡ drop l.answer-index l.initial.answers;
  within : l.answer-index ≤ length l.calls;
  left : iter_rest l.rest ≡ drop l.answer-index l.calls;
}
