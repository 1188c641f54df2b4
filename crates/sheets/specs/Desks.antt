-- The memory of a sheet's machine.
use Rattle.std.specs.Prelude.{vec_items}
use Rattle.memory.specs.Cells.{Row, sound}
use Rattle.memory.specs.declared.plain.PlainCore.{PlainCore}

-- the cells of plain core
abbrev pub core_cells : PlainCore → Row
core_cells m = sound (vec_items m.words)
