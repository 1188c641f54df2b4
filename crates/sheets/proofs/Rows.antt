use Rattle.std.proofs.Common.{◌≡◌, ℕ, ◌*◌, List, replicate, ap}
use Rattle.memory.specs.Cells.{sound}
use Rattle.sheets.specs.Report.{blank}

pub zeros_blank : (ws : List ℕ) → ws ≡ replicate (16 * 1024) 0 → sound ws ≡ blank
unfolding blank
zeros_blank ws e = ap sound e
