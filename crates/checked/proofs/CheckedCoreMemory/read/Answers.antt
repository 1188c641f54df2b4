use Rattle.std.proofs.Common.{rules}
use Rattle.checked.proofs.Decodes.{mended_cell, spoiled_cell}
use Rattle.checked.proofs.CheckedCoreMemory.read.Goals as goal

pub returns-in_err-mended-clause-answer : goal.returns-in_err-mended-clause-answer
returns-in_err-mended-clause-answer c = let d = spoiled_cell _ c.mend.ensures.answer c.in_err-mended.ensures.ok_part in search (rules, d)

pub returns : goal.returns
returns c =
    let d = mended_cell _ _ c.mend.ensures.answer c.in_ok-mended.ensures.ok_part in
    record {
      answer = search (rules, d.1);
      after = search (rules, d.0);
      leaves = search rules;
      mends = search (rules, d.0);
    }
