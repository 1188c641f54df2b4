-- What a method of a map over a memory does.
use Rattle.std.specs.Prelude.{◌≡◌, Result}
use Rattle.memory.specs.Cells.{Row}
use Rattle.model.specs.declared.fault.Fault.{Fault}
use Rattle.model.specs.Access.{Access, perform}
use Rattle.addressing.specs.declared.mapped.Mapped.{Mapped}

-- the map is the same, and the memory is reached through the same reference
abbrev pub SameParts : {M : Type 0} → Mapped M → Mapped M → Type 0
SameParts old new = (new.map.now ≡ old.map.now) × (new.memory.ghost_name ≡ old.memory.ghost_name)

-- the answer, and the cells after it, are those of the accesses t
abbrev pub Performs : {M X : Type 0} → (M → Row) → Mapped M → Mapped M → Result X Fault → Access X → Type 0
Performs cells old new result t =
    SameParts old new × ((result, cells new.memory.now) ≡ perform old.map.now (cells old.memory.now) t)
