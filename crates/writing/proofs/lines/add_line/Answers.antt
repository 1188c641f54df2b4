use Rattle.std.proofs.Common.{append_assoc, rules}
use Rattle.writing.specs.Write.{line}
use Rattle.writing.proofs.lines.add_line.Goals as goal

pub returns : goal.returns
unfolding line
returns g c = search (rules, append_assoc)
