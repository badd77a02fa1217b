-- The sum fits, since the price is small.
use Rattle.std.proofs.Common.{◌+◌, ◌-◌, ◌*◌, ◌≤◌, arith}
use mir.Facts.{Fits-below}
use Rattle.rules.specs.trees.Costs.{expected}
use Rattle.rules.proofs.trees.MeasureLaws.{expected_lawful}
use Rattle.fitting.proofs.Prices.{price_small}
use Rattle.fitting.proofs.measure.ExpectedMeasure.price.Goals as goal
use Rattle.fitting.proofs.measure.ExpectedMeasure.price.Goals.{After-hundred_to}

small : (c : After-hundred_to) → c.args.fork.cost * c.hundred_to.result + c.args.fork.chance * c.args.fork.on + (100 - c.args.fork.chance) * c.args.fork.off ≤ 6000000000000000
small c = rw c.hundred_to.ensures (price_small expected expected_lawful c.args.fork)

pub overflow_mul-own : goal.overflow_mul-own
overflow_mul-own c = Fits-below {n = 6000000000000000} tt (omega (arith, small (goal.at.overflow_mul-own c).After-hundred_to))

pub overflow_mul-result : goal.overflow_mul-result
overflow_mul-result c = Fits-below {n = 6000000000000000} tt (omega (arith, small (goal.at.overflow_mul-result c).After-hundred_to))

pub overflow_add-result : goal.overflow_add-result
overflow_add-result c = Fits-below {n = 6000000000000000} tt (omega (arith, small (goal.at.overflow_add-result c).After-hundred_to))

pub overflow_mul-result-2 : goal.overflow_mul-result-2
overflow_mul-result-2 c = Fits-below {n = 6000000000000000} tt (omega (arith, small (goal.at.overflow_mul-result-2 c).After-hundred_to))

-- twice that is room for any two shares that are small
pub overflow_add-result-2 : goal.overflow_add-result-2
overflow_add-result-2 c = Fits-below {n = 12000000000000000} tt (omega (arith, small (goal.at.overflow_add-result-2 c).After-hundred_to))
