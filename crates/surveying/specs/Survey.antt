-- What a survey answers.
use Rattle.std.specs.Prelude.{◌≡◌, ℕ, ◌<◌, Some, None, Option, ◌≢◌}
use Rattle.memory.specs.Cells.{spoiled, Row}

-- none only where no cell is spoiled; else the address of a spoiled cell, whichever
abbrev pub Surveyed : Row → Option ℕ → Type 0
Surveyed r None = (k : ℕ) → k < r.size → r.at k ≢ spoiled
Surveyed r (Some a) = (a < r.size) × (r.at a ≡ spoiled)
