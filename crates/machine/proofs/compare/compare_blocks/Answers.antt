use Rattle.std.proofs.Common.{arith}
use Rattle.machine.proofs.Differences.{found_in}
use Rattle.machine.proofs.compare.compare_blocks.Goals as goal

pub returns-in-Some-clause-answer : goal.returns-in-Some-clause-answer
returns-in-Some-clause-answer g c =
    let i = c.loop-block.invariant in
    found_in c.args.blocks.now c.loop-block.block-index c.from.result
    (g.M.Memory.cells c.args.left.now) (g.N.Memory.cells c.args.right.now)
    (g.M.Memory.cells c.loop-block.left) (g.N.Memory.cells c.loop-block.right)
    c.in-Some.at (omega arith) c.from.ensures i.0 i.1 i.2 c.in-Some.ensures.answer
