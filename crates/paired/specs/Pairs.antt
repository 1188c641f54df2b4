-- Two rows of cells joined, the even cells from one and the odd ones from the other.
use Rattle.std.specs.Prelude.{ℕ, ◌+◌, ◌*◌, ◌/◌, ◌%◌, min, Bool, if◌then◌else◌, ◌&&◌, ◌==◌, nat_le}
use Rattle.memory.specs.Cells.{Cell, Row, row}

abbrev pub alternating : Row → Row → ℕ → Cell
alternating a b n = if n % 2 == 0 then a.at (n / 2) else b.at (n / 2)

-- two rows of equal size
abbrev pub interleaved : Row → Row → Row
interleaved a b = row (a.size + b.size) (alternating a b)

-- two rows that may be joined: of equal size, and together at most 127 blocks
abbrev pub level : Row → Row → Bool
level a b = a.size == b.size && nat_le (a.size + b.size) 130048

-- what any two rows mean together, though only level ones are ever joined: as many cells as both have, and at most 63
-- blocks of each
abbrev pub paired : Row → Row → Row
paired a b = row (2 * min (min a.size b.size) 64512) (alternating a b)
