-- The lowest event is below 64.
use Rattle.std.proofs.Common.{arith}
use Rattle.events.proofs.CellLaws.{lowest_small}
use Rattle.fitting.proofs.tree.leaf.Goals as goal

pub bounds-sets-lowest_event : goal.bounds-sets-lowest_event
bounds-sets-lowest_event c = omega (arith, lowest_small c.args.cell.number, c.lowest_event.ensures)
