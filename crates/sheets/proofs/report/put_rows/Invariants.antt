use Rattle.std.proofs.Common.{◌≡◌, ◌+◌, ◌≤◌, ◌++◌, length, string_bytes}
use Rattle.machine.specs.Machine.{modelled}
use Rattle.reading.specs.Rows.{rows}
use Rattle.sheets.specs.Report.{lines}
use Rattle.sheets.proofs.report.put_rows.Given as goal

-- what is out and what remains make the whole
abbrev pub invariant-loop-number : goal.invariant-loop-number
invariant-loop-number g l =
    (string_bytes l.fn.out ++ lines (modelled g.M.Memory.cells l.fn.desk.machine) 1 (rows l.fn.text)
    ≡ string_bytes l.out ++ lines (modelled g.M.Memory.cells l.desk.machine) l.number-iterator.a.start (rows l.number-iterator.b.text.now))
    × (l.number-iterator.a.start + length (rows l.number-iterator.b.text.now) ≤ 4097)
