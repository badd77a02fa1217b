-- The cell with the line fixed is a cell.
use Rattle.std.proofs.Common.{◌≡◌, ℕ, ◌+◌, ◌*◌, ◌^◌, ◌<◌, ap, arith}
use Rattle.events.proofs.CellLaws.{cell_below}
use Rattle.fitting.proofs.cells.with_digit.Goals as goal
use Rattle.fitting.proofs.cells.with_digit.Goals.{After-weight}

low : (c : After-weight) → c.args.cell.number + c.args.digit * c.weight.result < 729
low c =
    let same : c.args.digit * c.weight.result ≡ c.args.digit * 3 ^ c.args.line = ap (λ (w : ℕ). c.args.digit * w) c.weight.ensures in
    omega (arith, same, cell_below c.args.cell.number c.args.line c.args.digit c.args.cell.low c.requires.free.0 c.requires.free.1 c.requires.digit)

pub overflow_mul-result : goal.overflow_mul-result
overflow_mul-result c = record { fits = omega (arith, low (goal.at.overflow_mul-result c).After-weight) }

pub overflow_add-result : goal.overflow_add-result
overflow_add-result c = record { fits = omega (arith, low (goal.at.overflow_add-result c).After-weight) }

pub invariant_of-result : goal.invariant_of-result
invariant_of-result c = record { low = low (goal.at.invariant_of-result c).After-weight }
