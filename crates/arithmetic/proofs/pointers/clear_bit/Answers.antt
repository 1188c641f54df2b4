use Rattle.std.proofs.Common.{arith}
use lib.Bits.{and_comm}
use Rattle.std.proofs.lemmas.Nat.{and-not}
use Rattle.arithmetic.proofs.Words.{masked}
use Rattle.arithmetic.proofs.pointers.clear_bit.Goals as goal

pub returns : goal.returns
returns c =
    let e = masked c.args.pointer c.args.word in
    let kept = and-not 16 c.mask_of.result c.args.word (omega arith) (omega arith) in
    grind (arith, e, kept, and_comm)
