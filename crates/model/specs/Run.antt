-- One step with its fetch, and a run of steps.
use Rattle.std.specs.Prelude.{ℕ, zero, suc, ◌+◌, Ok, Err, Result}
use Rattle.memory.specs.Cells.{Row}
use Rattle.model.specs.declared.fault.Fault.{Fault}
use Rattle.model.specs.declared.steps.Outcome.{Outcome}
use Rattle.model.specs.declared.steps.Outcome.TheVariants.{Next, Called}
use Rattle.model.specs.declared.steps.Ran.{Ran}
use Rattle.model.specs.declared.steps.Turn.{Turn}
use Rattle.model.specs.declared.steps.Turn.TheVariants.{Goes, Calls, Stops}
use Rattle.model.specs.declared.stop.Stop.TheVariants as stop
use Rattle.model.specs.declared.user.Registers.{Registers}
use Rattle.model.specs.declared.user.UserMap.{UserMap}
use Rattle.model.specs.Access.{Done, perform, reading}
use Rattle.model.specs.Step.{instruction}

-- an instruction carried out, the registers beside its answer: a fault leaves them as they were before the step
abbrev pub settle : Registers → Done (Outcome × Registers) → Result Outcome Fault × Registers × Row
settle r (Ok (o, q), cs) = (Ok o, q, cs)
settle r (Err e, cs) = (Err e, r, cs)

-- what it comes to, a stop with the address and the word of the instruction
abbrev pub turned : ℕ → ℕ → Result Outcome Fault × Registers × Row → Turn × Registers × Row
turned a w (Ok Next, q, cs) = (Goes, q, cs)
turned a w (Ok Called, q, cs) = (Calls (stop.Call a w), q, cs)
turned a w (Err e, q, cs) = (Stops (stop.Faulted a w e), q, cs)

-- the fetch of the word at the PC; where it fails, there is no word
abbrev pub with_word : Registers → Done ℕ → (ℕ → Row → Turn × Registers × Row) → Turn × Registers × Row
with_word r (Ok w, cs) k = k w cs
with_word r (Err e, cs) k = (Stops (stop.Faulted r.pc 0 e), r, cs)

abbrev pub executed : UserMap → Registers → ℕ → Row → Turn × Registers × Row
executed m r w cs = turned r.pc w (settle r (perform m cs (instruction m.switches r w)))

-- one step, and the registers and cells after it
abbrev pub advanced : UserMap → Registers → Row → Turn × Registers × Row
advanced m r cs = with_word r (perform m cs (reading r.pc)) (executed m r)

-- n steps are made before; a call of the supervisor counts as a step, a step that is not completed does not
abbrev pub settled : Turn × Registers × Row → ℕ → (Registers → Row → Ran × Registers × Row) → Ran × Registers × Row
settled (Goes, q, cs) n more = more q cs
settled (Calls s, q, cs) n more = (record { steps = n + 1; stop = s }, q, cs)
settled (Stops s, q, cs) n more = (record { steps = n; stop = s }, q, cs)

-- at most so many steps more, n being made
abbrev pub runs : ℕ → ℕ → UserMap → Registers → Row → Ran × Registers × Row
runs zero n m r cs = (record { steps = n; stop = stop.Spent r.pc }, r, cs)
runs (suc k) n m r cs = settled (advanced m r cs) n (λ q ds. runs k (n + 1) m q ds)
