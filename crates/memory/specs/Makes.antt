-- What making a memory answers, by its cells: the memory, or what was handed in.
use Rattle.std.specs.Prelude.{Ok, Err, Result}
use Rattle.memory.specs.Cells.{Row}
use Rattle.memory.specs.declared.fault.WrongSize.{WrongSize}

abbrev pub outcome : {M X : Type 0} → (M → Row) → Result M (WrongSize X) → Result Row X
outcome cells (Ok m) = Ok (cells m)
outcome cells (Err d) = Err d.back
