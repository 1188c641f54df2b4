-- What a read and a write of a memory answer, and what they leave.
use Rattle.std.specs.Prelude.{ℕ, if◌then◌else◌, Ok, Err, Result, nat_lt}
use Rattle.memory.specs.Cells.{Cell, word, spoiled, Row, put}
use Rattle.memory.specs.declared.fault.MemoryFault.{MemoryFault}
use Rattle.memory.specs.declared.fault.MemoryFault.TheVariants.{Range, Spoiled}

-- what a read of one cell answers
abbrev pub told : Cell → Result ℕ MemoryFault
told (word w) = Ok w
told spoiled = Err Spoiled

abbrev pub reading : Row → ℕ → Result ℕ MemoryFault
reading r n = if nat_lt n r.size then told (r.at n) else Err Range

abbrev pub writing : Row → ℕ → Result (Unit {0}) MemoryFault
writing r n = if nat_lt n r.size then Ok tt else Err Range

abbrev pub written : Row → ℕ → Cell → Row
written r n v = if nat_lt n r.size then put r n v else r
