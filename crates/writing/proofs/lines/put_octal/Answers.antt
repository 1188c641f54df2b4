use Rattle.std.proofs.Common.{rules}
use Rattle.writing.specs.Write.{octal}
use Rattle.writing.proofs.lines.put_octal.Goals as goal

pub returns-in_ok-add : goal.returns-in_ok-add
unfolding octal
returns-in_ok-add g c = search rules

pub returns-in_ok-put_digits : goal.returns-in_ok-put_digits
unfolding octal
returns-in_ok-put_digits g c = search rules
