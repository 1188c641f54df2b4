use Rattle.std.proofs.Common.{append_assoc, arith}
use Rattle.std.proofs.lemmas.List.{append-nil, drop_more, drop_all}
use Rattle.writing.proofs.Figures.{spaced_none, spaced_more}
use Rattle.writing.proofs.lines.put_spaced.Goals as goal

pub loop-n-preserved : goal.loop-n-preserved
loop-n-preserved g c =
    let e = drop_more c.args.numbers.now c.loop-n.n-index 0 (omega arith) in
    grind (arith, e, append_assoc, spaced_more)

pub returns : goal.returns
returns g c =
    let e = drop_all c.loop-n.n-index c.args.numbers.now (omega arith) in
    grind (arith, e, append-nil, spaced_none)
