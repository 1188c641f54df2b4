use Rattle.std.proofs.Common.{arith}
use Rattle.arithmetic.proofs.Words.{none_above}
use Rattle.arithmetic.proofs.shifts.U16LogicalShift.shifted_right.Goals as goal

pub returns : goal.returns
returns c = grind (arith, none_above 16)
