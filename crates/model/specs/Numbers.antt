-- The number of each denial, and the numbers of each stop: all of them, in this one place.
use Rattle.std.specs.Prelude.{ℕ, false, List, ◌++◌, Some, None, Option, codes, decimal}
use Rattle.std.specs.Fmt.{digits}
use Rattle.memory.specs.Numbers.{fault_number, wrong_size_number}
use Rattle.memory.specs.declared.fault.MemoryFault.{MemoryFault}
use Rattle.model.specs.declared.denial.Denial.{Denial}
use Rattle.model.specs.declared.denial.Denial.TheVariants as denial
use Rattle.model.specs.declared.fault.Fault.{Fault}
use Rattle.model.specs.declared.fault.Fault.TheVariants as fault
use Rattle.model.specs.declared.fault.MapFault.TheVariants as map
use Rattle.model.specs.declared.stop.Stop.{Stop}
use Rattle.model.specs.declared.stop.Stop.TheVariants as stop
use Rattle.model.specs.declared.stop.StopValues.{StopValues}

-- the memory's refusal of a put or a get, as a denial
abbrev pub from_cause : MemoryFault → Denial
from_cause e = denial.Memory e

-- 1 is range and 2 spoiled, the memory's own
abbrev pub number_of : Denial → ℕ
number_of (denial.Memory e) = fault_number e
number_of denial.Pc = 3
number_of denial.Block = 4
number_of denial.BadOption = 5
number_of denial.Permit = 6
number_of denial.Size = wrong_size_number
number_of denial.Sheet = 8

abbrev pub stop_values : ℕ → ℕ → ℕ → ℕ → ℕ → ℕ → StopValues
stop_values reason address word logical physical cause =
    record { reason = reason; address = address; word = word; logical = logical; physical = physical; cause = cause }

-- a step that was not completed, of the instruction at a with the word w
abbrev pub by_fault : ℕ → ℕ → Fault → StopValues
by_fault a w (fault.Map (map.Validity l)) = stop_values 12 a w l 0 0
by_fault a w (fault.Map (map.Protected l)) = stop_values 13 a w l 0 0
by_fault a w (fault.Chain l) = stop_values 14 a w l 0 0
by_fault a w (fault.Map (map.Memory e)) = stop_values 15 a w e.logical e.physical (fault_number e.cause)
by_fault a w fault.Device = stop_values 16 a w 0 0 0
by_fault a w fault.Stack = stop_values 17 a w 0 0 0
by_fault a w fault.Code = stop_values 18 a w 0 0 0
by_fault a w fault.Execute = stop_values 19 a w 0 0 0

abbrev pub values_of : Stop → StopValues
values_of (stop.Spent a) = stop_values 10 a 0 0 0 0
values_of (stop.Call a w) = stop_values 11 a w 0 0 0
values_of (stop.Faulted a w e) = by_fault a w e

-- the latest stop, all 0 before the first run
abbrev pub latest_values : Option Stop → StopValues
latest_values None = stop_values 0 0 0 0 0 0
latest_values (Some s) = values_of s

-- a number in octal digits, one digit for 0
abbrev pub octal : ℕ → List ℕ
octal n = digits 8 false n

-- the text of a stop's numbers: its reason and its cause in decimal digits, the others in octal digits
abbrev pub stop_text : StopValues → List ℕ
stop_text s =
    codes "stop " ++ (decimal s.reason
    ++ (codes ": address " ++ (octal s.address
    ++ (codes ", word " ++ (octal s.word
    ++ (codes ", logical " ++ (octal s.logical
    ++ (codes ", physical " ++ (octal s.physical
    ++ (codes ", cause " ++ decimal s.cause))))))))))
