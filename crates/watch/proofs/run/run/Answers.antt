-- The whole promise: the trees that were fitted are the plan's, and the calls of its watch have their answers.
use Rattle.std.proofs.Common.{◌≤◌, length, arith}
use Rattle.pruning.specs.Drafts.{rule_of}
use Rattle.watch.specs.Running.{lent}
use Rattle.watch.proofs.RunLaws.{just_fitted, watched}
use Rattle.watch.proofs.run.run.Goals as goal

pub returns : goal.returns
returns g c =
    let price = g.M.Measure.price c.args.measure.now in
    let rule = rule_of c.args.draft in
    let told = c.in_ok-told.told in
    let (room, fit) = c.in_ok-told.ensures in
    let room_after : 4064 ≤ length c.fit.new.nodes = omega (arith, room, c.fit.auto.nodes) in
    record {
      answered = watched price rule c.args.calls.now (lent c.args.nodes.now c.args.answers.now (g.S.LineSource.events c.args.source.now))
          (lent c.fit.new.nodes c.watch_calls-made.new.answers (g.S.LineSource.events c.watch_calls-made.new.source)) told c.watch_calls-made.result c.make_plan-plan.result
          room fit (g.S.LineSource.small c.args.source.now)
          (c.make_plan-plan.ensures.taken told (just_fitted price rule c.args.nodes.now c.fit.new.nodes told room_after fit)).1
          c.watch_calls-made.ensures.made c.watch_calls-made.ensures.called c.watch_calls-made.ensures.rest;
      refused = λ e. absurd cc;
    }
