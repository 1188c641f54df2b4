use mathlib.Core.Path.{◌≡◌}
use Prim.Native.Nat.{◌-◌}
use Rattle.model.specs.Access.{perform}
use Rattle.model.specs.Address.{follow}
use Rattle.addressing.specs.Mapped.{SameParts}
use Rattle.addressing.proofs.mapped.Mapped.resolve.Given as goal

-- what is left of the chain comes to what the whole chain comes to
abbrev pub invariant-loop : goal.invariant-loop
invariant-loop g l =
    let m = l.initial.self in
    SameParts m l.self
    × (perform m.map.now (g.M.Memory.cells m.memory.now) (follow l.first l.limit)
    ≡ perform m.map.now (g.M.Memory.cells l.self.memory.now) (follow l.at (l.limit - l.counter)))
