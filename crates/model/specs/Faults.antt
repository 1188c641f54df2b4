-- How a refusal is handed up: the memory's cause to the map, the map's fault to the instruction.
use Rattle.std.specs.Prelude.{ℕ, Ok, Err, Result}
use Rattle.memory.specs.declared.fault.MemoryFault.{MemoryFault}
use Rattle.model.specs.declared.fault.Fault.{Fault}
use Rattle.model.specs.declared.fault.Fault.TheVariants as fault
use Rattle.model.specs.declared.fault.Located.{Located}
use Rattle.model.specs.declared.fault.MapFault.{MapFault}
use Rattle.model.specs.declared.fault.MapFault.TheVariants as map

-- why a program halts by itself, whatever the map and the memory say
pub data Halt : Type 0 where
  chain : ℕ → Halt
  device : Halt
  stack : Halt
  code : Halt
  execute : Halt

-- a memory's answer, with the physical and the logical address where it refused
abbrev pub located : {X : Type 0} → Result X MemoryFault → ℕ → ℕ → Result X Located
located (Ok x) p a = Ok x
located (Err e) p a = Err (record { cause = e; physical = p; logical = a })

abbrev pub from_memory : Located → MapFault
from_memory e = map.Memory e

abbrev pub from_map : MapFault → Fault
from_map e = fault.Map e

abbrev pub from_program : Halt → Fault
from_program (chain a) = fault.Chain a
from_program device = fault.Device
from_program stack = fault.Stack
from_program code = fault.Code
from_program execute = fault.Execute

abbrev pub faulted : {X : Type 0} → Result X Located → Result X MapFault
faulted (Ok x) = Ok x
faulted (Err e) = Err (from_memory e)

abbrev pub raised : {X : Type 0} → Result X MapFault → Result X Fault
raised (Ok x) = Ok x
raised (Err e) = Err (from_map e)
