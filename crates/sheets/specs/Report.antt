-- The report of a sheet, byte by byte.
use Rattle.std.specs.Prelude.{ℕ, ◌+◌, ◌*◌, List, [], ◌∷◌, ◌++◌, replicate, Some, None, Ok, Err, codes, Option, Result}
use Rattle.memory.specs.Cells.{Row as Cells, sound}
use Rattle.model.specs.declared.denial.Denial.{Denial}
use Rattle.model.specs.declared.denial.Denial.TheVariants.{Sheet}
use Rattle.model.specs.Machine.{State, fresh}
use Rattle.reading.specs.declared.row.Row.{Row}
use Rattle.reading.specs.Read.{opened}
use Rattle.reading.specs.Rows.{rows}
use Rattle.sheets.specs.Lines.{line_bytes}
use Rattle.sheets.specs.Rows.{carried_out}

abbrev pub heading : List ℕ
heading = codes "row answer stop steps pc ac0 ac1 ac2 ac3 carry" ++ (10 ∷ [])

-- the lines of rows, of which the first is row n
abbrev pub lines : State → ℕ → List (Result Row Denial) → List ℕ
lines s n [] = []
lines s n (Err d ∷ rs) = line_bytes n (Err d) ++ lines s (n + 1) rs
lines s n (Ok r ∷ rs) = let x = carried_out s r in line_bytes n x.0 ++ lines x.1 (n + 1) rs

-- plain core of 16 blocks of zeros
unfoldable pub blank : Cells
blank = sound (replicate (16 * 1024) 0)

-- a wrong first line or a sheet that is too long shows row 0 as a wrong row, and no row is carried out
abbrev pub body : Option (List ℕ) → List ℕ
body None = line_bytes 0 (Err Sheet)
body (Some bs) = lines (fresh blank) 1 (rows bs)

abbrev pub report : List ℕ → List ℕ
report bs = heading ++ body (opened bs)
