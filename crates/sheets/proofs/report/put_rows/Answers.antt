use Rattle.std.proofs.Common.{rules}
use Rattle.reading.proofs.RowLemmas.{few_rows}
use Rattle.sheets.proofs.report.put_rows.Goals as goal

pub loop-number-init : goal.loop-number-init
loop-number-init g c = let f = few_rows c.args.text.now in search rules
