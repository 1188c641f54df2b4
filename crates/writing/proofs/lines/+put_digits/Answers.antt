use Rattle.std.proofs.Common.{append_assoc, arith, rules}
use Rattle.std.proofs.lemmas.List.{append-nil}
use Rattle.writing.proofs.Figures.{figures_step, figures_none}
use Rattle.writing.proofs.lines.+put_digits.Goals as goal

pub returns-in_ok-add : goal.returns-in_ok-add
returns-in_ok-add g t c =
    let e = figures_step c.args.n (omega arith) in
    search (rules, e, append_assoc)

pub returns-else-n-gt0 : goal.returns-else-n-gt0
returns-else-n-gt0 g t c = search (rules, figures_none, append-nil)
