-- Each turn takes the lowest event that is left.
use Rattle.std.proofs.Common.{refl}
use Rattle.events.proofs.MemberLaws.{Taken, taken, none_left}
use Rattle.pruning.proofs.GatherLaws.{adding_more}
use Rattle.pruning.proofs.select.add_to_covered.Goals as goal
use Rattle.pruning.proofs.select.add_to_covered.Goals.{In-Some}

turn : (c : In-Some) → Taken c.loop-event.event-iterator.rest c.in-Some.event c.next.new.self.rest
turn c = taken c.loop-event.event-iterator.rest c.in-Some.event c.next.new.self.rest c.in-Some.ensures.steps

pub bounds-sets-event : goal.bounds-sets-event
bounds-sets-event c = (turn (goal.at.bounds-sets-event c).In-Some).low

pub bounds-sets-event-in-loop-event : goal.bounds-sets-event-in-loop-event
bounds-sets-event-in-loop-event c = (turn (goal.at.bounds-sets-event-in-loop-event c).In-Some).low

pub loop-event-preserved : goal.loop-event-preserved
loop-event-preserved c = (
  tt,
  tt,
  adding_more c.args.sets.now c.loop-event.sets c.args.covered c.loop-event.event-iterator.rest c.args.bit c.in-Some.event c.next.new.self.rest
      c.loop-event.invariant.2 (turn (goal.at.loop-event-preserved c).In-Some) _ refl,
)

pub returns : goal.returns
returns c = record {
  long = c.loop-event.invariant.2.long;
  added = λ e l. c.loop-event.invariant.2.done e l (none_left c.loop-event.event-iterator.rest c.in-None.ensures.steps.0 e l);
}
