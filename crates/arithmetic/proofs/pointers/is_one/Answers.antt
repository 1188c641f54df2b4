use Rattle.std.proofs.Common.{◌-◌, ◌%◌, arith}
use Rattle.std.proofs.lemmas.Nat.{pow_pos}
use Rattle.arithmetic.proofs.Words.{masked}
use Rattle.arithmetic.proofs.pointers.is_one.Goals as goal

pub returns : goal.returns
returns c =
    let e = masked c.args.pointer c.args.word in
    let p = pow_pos (15 - c.args.pointer % 16) in
    grind (arith, e, p)
