-- The numbers of a memory's denials.
use Rattle.std.specs.Prelude.{ℕ}
use Rattle.memory.specs.declared.fault.MemoryFault.{MemoryFault}
use Rattle.memory.specs.declared.fault.MemoryFault.TheVariants.{Range, Spoiled}

abbrev pub fault_number : MemoryFault → ℕ
fault_number Range = 1
fault_number Spoiled = 2

abbrev pub wrong_size_number : ℕ
wrong_size_number = 7
