-- The tables are filled from the cell on.
use Rattle.fitting.specs.Tables.{value_at}
use Rattle.fitting.proofs.Filled.{Filled}
use Rattle.fitting.proofs.best.fill_tables.Given as goal

abbrev pub invariant-loop-number : goal.invariant-loop-number
invariant-loop-number g l = Filled (g.M.Measure.price l.measure) l.lines (value_at l.sets) l.costs l.chosen l.number
