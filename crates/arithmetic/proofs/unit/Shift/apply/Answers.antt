use Rattle.std.proofs.Common.{arith}
use Rattle.arithmetic.proofs.Words.{or_low}
use Rattle.arithmetic.proofs.unit.Shift.apply.Goals as goal

pub returns-in-Left : goal.returns-in-Left
returns-in-Left c = grind (arith, or_low 1)
