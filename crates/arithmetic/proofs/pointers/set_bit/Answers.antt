use Rattle.std.proofs.Common.{arith}
use lib.Bits.{or_add_and}
use Rattle.arithmetic.proofs.Words.{masked}
use Rattle.arithmetic.proofs.pointers.set_bit.Goals as goal

pub returns : goal.returns
returns c =
    let e = masked c.args.pointer c.args.word in
    let s = or_add_and c.args.word c.mask_of.result in
    grind (arith, e, s)
