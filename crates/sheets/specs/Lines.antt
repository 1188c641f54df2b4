-- The line that a row gives in the report.
use Rattle.std.specs.Prelude.{ℕ, false, if◌then◌else◌, List, [], ◌∷◌, replicate, slice_index, Some, None, Ok, Err, Option, Result}
use Rattle.model.specs.declared.denial.Denial.{Denial}
use Rattle.model.specs.declared.steps.Ran.{Ran}
use Rattle.model.specs.declared.user.Registers.{Registers}
use Rattle.model.specs.Numbers.{number_of, values_of}
use Rattle.model.specs.Machine.{Answer, denied, refused, granted, got, permit, ran, shown}
use Rattle.writing.specs.Write.{line}
use Rattle.sheets.specs.declared.line.Granted.{Granted}

-- a start is made with registers 0 but for the PC
abbrev pub starting_at : ℕ → Registers
starting_at at = record { ac = replicate 4 0; carry = false; pc = at }

-- a granted row that shows zeros
abbrev pub quiet : Granted
quiet = record { ran = None; registers = starting_at 0 }

-- what comes of a row: a denial, or what a granted row shows
abbrev pub Told : Type 0
Told = Result Granted Denial

-- a call's answer, r being the registers of its user after it: denials, map words and puts show zeros, a start the
-- registers, and a run also its stop and its steps
abbrev pub told : Answer → Registers → Told
told (denied d) r = Err d
told (refused d w k) r = Err d
told granted r = Ok quiet
told (got w) r = Ok quiet
told (permit w k) r = Ok (record { ran = None; registers = r })
told (ran n s w k) r = Ok (record { ran = Some (record { steps = n; stop = s }); registers = r })
told (shown q k s) r = Ok quiet

-- how a run ended, and its steps; zeros where there was none
abbrev pub reason_of : Option Ran → ℕ
reason_of None = 0
reason_of (Some x) = (values_of x.stop).reason

abbrev pub steps_of : Option Ran → ℕ
steps_of None = 0
steps_of (Some x) = x.steps

-- answer stop steps pc ac0 ac1 ac2 ac3 carry
abbrev pub numbers_after : ℕ → Granted → List ℕ
numbers_after answer l =
    answer ∷ reason_of l.ran ∷ steps_of l.ran ∷ l.registers.pc
    ∷ slice_index l.registers.ac 0 ∷ slice_index l.registers.ac 1 ∷ slice_index l.registers.ac 2 ∷ slice_index l.registers.ac 3
    ∷ (if l.registers.carry then 1 else 0) ∷ []

abbrev pub numbers : Told → List ℕ
numbers (Ok l) = numbers_after 0 l
numbers (Err d) = numbers_after (number_of d) quiet

-- row answer stop steps pc ac0 ac1 ac2 ac3 carry
abbrev pub line_bytes : ℕ → Told → List ℕ
line_bytes number o = line number (numbers o)
