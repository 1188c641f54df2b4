use Rattle.std.proofs.Common.{◌-◌, arith}
use Rattle.machine.proofs.Differences.{answers_apart}
use Rattle.machine.proofs.compare.compare_block.Goals as goal

pub returns-then-ne-clause-answer : goal.returns-then-ne-clause-answer
returns-then-ne-clause-answer g c =
    let i = c.loop-at.invariant in
    let apart = answers_apart c.read.result c.read-in-loop-at.result c.ne.ensures c.if-ne.true in
    (c.loop-at.at - c.args.start, omega arith, omega arith, λ j l. i.3 j (omega (arith, i.0)), λ e. apart cc)
