use Rattle.std.proofs.Common.{◌≡◌, ℕ, ◌<◌}
use Rattle.memory.specs.Cells.{spoiled}
use Rattle.surveying.proofs.survey.Given as goal

-- the memory means what it meant, and no cell before this one is spoiled
abbrev pub invariant-loop-at : goal.invariant-loop-at
invariant-loop-at g l =
    (g.M.Memory.cells l.memory ≡ g.M.Memory.cells l.initial.memory)
    × ((k : ℕ) → k < l.at → (g.M.Memory.cells l.initial.memory).at k ≡ spoiled → ⊥)
