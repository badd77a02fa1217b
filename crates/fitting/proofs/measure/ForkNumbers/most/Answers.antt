-- The bound for the lines left is within the bound for six, which fits.
use Rattle.std.proofs.Common.{◌-◌, arith}
use mir.Facts.{Fits-below}
use Rattle.fitting.proofs.Prices.{bound_most}
use Rattle.fitting.proofs.measure.ForkNumbers.most.Goals as goal

pub overflow_mul-result-2 : goal.overflow_mul-result-2
overflow_mul-result-2 c = Fits-below {n = 6000000000000000} tt (rw c.hundred_to.ensures (rw c.from.ensures (bound_most (c.args.unpolled - 1) (omega (arith, c.requires.1)))))
