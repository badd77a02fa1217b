-- The five numbers are within their ranges, by the ranges of the line and the bounds of the two cells.
use Rattle.fitting.specs.Tables.{value_at}
use Rattle.fitting.proofs.Prices.{on_small, off_small, some_left, few_left}
use Rattle.fitting.proofs.best.Forks.on_line.Goals as goal

pub invariant_of-price : goal.invariant_of-price
invariant_of-price g c =
    let best = value_at c.args.self.now.costs.now in
    let cell = c.args.self.now.cell in
    let line = c.args.line in
    let u = c.args.unpolled in
    let small = c.args.self.now.small in
    let range = c.args.self.now.in_range line c.requires.line in
    let (free, on, off) = c.in_ok-parts.ensures in record {
      cost_low = range.cost_low;
      cost_high = range.cost_high;
      chance_high = range.chance_high;
      some = some_left best cell.number line u small cell.low free c.requires.count;
      few = few_left best cell.number line u small cell.low free c.requires.count;
      on_high = on_small best cell.number line u small cell.low free c.requires.count c.in_ok-parts.parts.on.number on;
      off_high = off_small best cell.number line u small cell.low free c.requires.count c.in_ok-parts.parts.off.number off;
    }
