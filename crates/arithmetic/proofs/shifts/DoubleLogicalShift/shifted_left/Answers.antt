use Rattle.std.proofs.Common.{arith}
use Rattle.arithmetic.proofs.Words.{none_below}
use Rattle.arithmetic.proofs.shifts.DoubleLogicalShift.shifted_left.Goals as goal

pub returns : goal.returns
returns c = grind (arith, none_below 32)
