-- What was gathered so far, with what the states that are left give, is what all held states give; and so with the lines polled.
use Rattle.std.proofs.Common.{◌≡◌}
use Rattle.events.specs.Sets.{members_of}
use Rattle.fitting.specs.Plans.{plan_trees}
use Rattle.watch.specs.Polling.{head_of}
use Rattle.watch.proofs.PollLaws.{Gathering}
use Rattle.watch.proofs.polling.gather.Given as goal

abbrev pub invariant-loop-state : goal.invariant-loop-state
invariant-loop-state g l =
    (goal.iterator-loop-state g).can_next l.state-iterator
    × (goal.iterator-loop-state g).is_finite l.state-iterator
    × (l.polls.source.now ≡ l.source)
    × Gathering (plan_trees l.plan) l.held (head_of (g.S.LineSource.events l.source)) (members_of l.state-iterator.rest) l.set l.polls.polled
