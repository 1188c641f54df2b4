-- The rows of a text, one after the other.
use Rattle.std.specs.Prelude.{ℕ, zero, suc, if◌then◌else◌, List, [], ◌∷◌, length, ◌==◌, Ok, Err, Result}
use Rattle.model.specs.declared.denial.Denial.{Denial}
use Rattle.model.specs.declared.denial.Denial.TheVariants.{Sheet}
use Rattle.reading.specs.declared.row.Row.{Row}
use Rattle.reading.specs.Read.{either, row}

-- at most k of them; a wrong row is the last
abbrev pub rows_within : ℕ → List ℕ → List (Result Row Denial)
rows_within zero bs = []
rows_within (suc k) bs = if length bs == 0 then [] else either (row bs) (Err Sheet ∷ []) (λ r cs. Ok r ∷ rows_within k cs)

-- each takes a byte at least, so that there are no more rows than bytes
unfoldable pub rows : List ℕ → List (Result Row Denial)
rows bs = rows_within (length bs) bs
