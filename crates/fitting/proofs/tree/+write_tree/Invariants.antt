-- Each part has one free line less.
use Rattle.events.specs.Cells.{free_in}
use Rattle.fitting.proofs.tree.+write_tree.Given as goal

abbrev pub decreases-write_tree : goal.decreases-write_tree
decreases-write_tree l = free_in l.cell.number
