-- What an instruction does to the registers and to a map over a memory.
use Rattle.std.specs.Prelude.{◌≡◌, Result}
use Rattle.memory.specs.Cells.{Row}
use Rattle.model.specs.declared.fault.Fault.{Fault}
use Rattle.model.specs.declared.steps.Outcome.{Outcome}
use Rattle.model.specs.declared.user.Registers.{Registers}
use Rattle.model.specs.Access.{perform}
use Rattle.model.specs.Run.{settle}
use Rattle.model.specs.Step.{Effect}
use Rattle.addressing.specs.declared.mapped.Mapped.{Mapped}
use Rattle.addressing.specs.Mapped.{SameParts}

-- the answer, and the registers and the cells after it, are those of the instruction t on the registers r
abbrev pub Settles : {M : Type 0} → (M → Row) → Mapped M → Mapped M → Registers → Registers → Result Outcome Fault → Effect → Type 0
Settles cells old new r q result t =
    SameParts old new × ((result, q, cells new.memory.now) ≡ settle r (perform old.map.now (cells old.memory.now) t))
