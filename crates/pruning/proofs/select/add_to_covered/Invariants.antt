-- The bit is added to the sets of the covered events that were taken.
use Rattle.pruning.proofs.GatherLaws.{Adding}
use Rattle.pruning.proofs.select.add_to_covered.Given as goal

abbrev pub invariant-loop-event : goal.invariant-loop-event
invariant-loop-event l =
    (goal.iterator-loop-event).can_next l.event-iterator
    × (goal.iterator-loop-event).is_finite l.event-iterator
    × Adding l.initial.sets l.sets l.covered l.event-iterator.rest l.bit
