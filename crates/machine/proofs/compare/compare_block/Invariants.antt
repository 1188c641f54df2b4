use Rattle.std.proofs.Common.{◌≡◌, ℕ, ◌+◌, ◌<◌, ◌≤◌}
use Rattle.machine.specs.Compare.{AlikeAt}
use Rattle.machine.proofs.compare.compare_block.Given as goal

-- the memories mean what they meant, and the cells before this one are alike
abbrev pub invariant-loop-at : goal.invariant-loop-at
invariant-loop-at g l =
    (l.start ≤ l.at)
    × (g.M.Memory.cells l.left ≡ g.M.Memory.cells l.initial.left)
    × (g.N.Memory.cells l.right ≡ g.N.Memory.cells l.initial.right)
    × ((j : ℕ) → l.start + j < l.at → AlikeAt (g.M.Memory.cells l.initial.left) (g.N.Memory.cells l.initial.right) (l.start + j))
