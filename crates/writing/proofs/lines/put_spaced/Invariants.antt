use Rattle.std.proofs.Common.{◌≡◌, ◌++◌, drop}
use Rattle.writing.specs.Write.{spaced}
use Rattle.writing.proofs.lines.put_spaced.Given as goal

abbrev pub invariant-loop-n : goal.invariant-loop-n
invariant-loop-n g l = g.B.Bytes.bytes l.initial.out ++ spaced l.numbers ≡ g.B.Bytes.bytes l.out ++ spaced (drop l.n-index l.numbers)
