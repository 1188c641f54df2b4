use Rattle.std.proofs.Common.{◌++◌, take}
use Rattle.std.specs.Fmt.{HasWritten, IsPlainFormatter}
use Rattle.writing.specs.Write.{octal, spaced}
use Rattle.writing.proofs.lines.OctalLineDisplay.fmt.Given as goal

abbrev pub invariant-loop-n : goal.invariant-loop-n
invariant-loop-n g l =
    IsPlainFormatter l.fn.f → HasWritten g.W.Write.write_str_gives l.fn.f (octal l.self.first ++ spaced (take l.n-index l.self.others.now)) l.f
