use Rattle.std.proofs.Common.{◌≡◌, suc, ◌+◌, ◌-◌, arith}
use Rattle.reading.proofs.text.read_number.Goals as goal

pub loop-preserved : goal.loop-preserved
loop-preserved c =
    let k : 5 - c.loop.counter ≡ suc (5 - (c.loop.counter + 1)) = omega arith in
    grind (arith, k)
