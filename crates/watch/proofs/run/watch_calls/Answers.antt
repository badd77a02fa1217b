-- One call more in each turn, and its answer at its place.
use Rattle.std.proofs.Common.{◌≡◌, ◌<◌, ◌≤◌, length, refl, ap, ◌∙◌, arith, length-drop}
use Rattle.std.proofs.lemmas.List.{set-get_or}
use Rattle.rules.proofs.watch.CalledLaws.{called_none}
use Rattle.fitting.specs.Plans.{plan_rule, plan_trees}
use Rattle.watch.specs.Watching.{ArmedOn}
use Rattle.watch.proofs.RunLaws.{next_call, calls_more, rest_kept, calls_all}
use Rattle.watch.proofs.run.watch_calls.Goals as goal

pub loop-answer-init : goal.loop-answer-init
unfolding ArmedOn
loop-answer-init g c =
    let p = c.args.plan.now in
    record {
      called = called_none (plan_rule p) (plan_trees p) c.args.calls.now (g.S.LineSource.events c.args.source.now) c.args.answers.now c.arm-watch.result.state c.arm-watch.ensures.armed;
      same_plan = c.arm-watch.ensures.plan;
      kept = refl;
      within = omega arith;
      left = c.iter-rest.ensures.rest;
    }

pub loop-answer-preserved : goal.loop-answer-preserved
loop-answer-preserved g c =
    let i = c.loop-answer.answer-index in
    let so_far = c.loop-answer.invariant in
    let la : i < length c.loop-answer.answers = omega (arith, c.loop-answer-test.true, c.loop-answer.auto.answers) in
    let next = next_call c.args.calls.now _ _ i c.in-Some.call.now so_far.left c.in-Some.ensures.steps in
    record {
      called = calls_more c.args.plan.now _ c.args.calls.now _ (g.S.LineSource.events c.args.source.now) c.loop-answer.answers i _ _ _ _ _ c.make.result next la so_far.same_plan so_far.called c.make.ensures.made;
      same_plan = c.make.ensures.plan ∙ so_far.same_plan;
      kept = rest_kept c.loop-answer.answers c.args.answers.now i c.make.result so_far.kept;
      within = let w = next.within in omega arith;
      left = next.left;
    }

-- all room is taken, or all calls are made
pub returns-after-loop-answer : goal.returns-after-loop-answer
returns-after-loop-answer g c =
    let i = c.loop-answer.answer-index in
    let so_far = c.loop-answer.invariant in
    let all : i ≡ c.min-made.result = omega (arith, c.min-made.ensures, so_far.within, c.loop-answer-test.false, c.loop-answer.auto.answer-index-end) in
    let (called, rest) = calls_all c.args.plan.now c.args.calls.now (g.S.LineSource.events c.args.source.now) c.args.answers.now c.loop-answer.answers i c.min-made.result
    c.loop-answer.watch.state (g.S.LineSource.events c.loop-answer.source) all so_far.called so_far.kept in
    record { made = c.min-made.ensures; called = called; rest = rest }

pub returns-in_default : goal.returns-in_default
returns-in_default g c =
    let i = c.loop-answer.answer-index in
    let so_far = c.loop-answer.invariant in
    let none : length c.args.calls.now ≤ i = omega (arith, c.in_default.ensures.steps.0, ap length so_far.left, length-drop i c.args.calls.now) in
    let all : i ≡ c.min-made.result = omega (arith, c.min-made.ensures, so_far.within, none, c.loop-answer-test.true) in
    let (called, rest) = calls_all c.args.plan.now c.args.calls.now (g.S.LineSource.events c.args.source.now) c.args.answers.now c.loop-answer.answers i c.min-made.result
    c.loop-answer.watch.state (g.S.LineSource.events c.loop-answer.source) all so_far.called so_far.kept in
    rw set-get_or (record { made = c.min-made.ensures; called = called; rest = rest })
