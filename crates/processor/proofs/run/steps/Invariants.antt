use mathlib.Core.Path.{◌≡◌}
use Prim.Native.Nat.{◌-◌}
use Rattle.model.specs.Run.{runs}
use Rattle.addressing.specs.Mapped.{SameParts}
use Rattle.processor.proofs.run.steps.Given as goal

-- the steps that are left come to what the whole run comes to
abbrev pub invariant-loop-done : goal.invariant-loop-done
invariant-loop-done g l =
    let m = l.initial.mapped in
    SameParts m l.mapped
    × (runs l.budget 0 m.map.now l.initial.r (g.M.Memory.cells m.memory.now)
    ≡ runs (l.budget - l.done) l.done m.map.now l.r (g.M.Memory.cells l.mapped.memory.now))
