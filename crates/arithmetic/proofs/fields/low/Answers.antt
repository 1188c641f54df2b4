use Rattle.std.proofs.Common.{arith}
use Rattle.std.proofs.lemmas.Nat.{and_mask, one_shl}
use Rattle.arithmetic.proofs.Words.{all_of_it}
use Rattle.arithmetic.proofs.fields.low.Goals as goal

pub returns-then-count-lt16 : goal.returns-then-count-lt16
returns-then-count-lt16 c =
    let shifted = one_shl c.args.count 16 (omega arith) in
    let masked = and_mask c.args.word c.args.count in
    grind (arith, shifted, masked)

pub returns-else-count-lt16 : goal.returns-else-count-lt16
returns-else-count-lt16 c =
    let whole = all_of_it 16 c.args.word c.args.count (omega arith) (omega arith) in
    grind (arith, whole)
