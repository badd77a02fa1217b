-- The weight of a digit is not 0.
use native.Mathlib.Nat.{one-le-pow}
use Rattle.std.proofs.Common.{arith, lit≤}
use Rattle.fitting.proofs.cells.is_free.Goals as goal

pub nonzero_div-result : goal.nonzero_div-result
nonzero_div-result c = omega (arith, c.weight.ensures, one-le-pow c.args.line 3 (lit≤ tt))
