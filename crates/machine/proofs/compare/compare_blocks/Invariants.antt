use Rattle.std.proofs.Common.{◌≡◌, ℕ, ◌*◌, ◌<◌}
use Rattle.machine.specs.Compare.{AlikeAt, address_in}
use Rattle.machine.proofs.compare.compare_blocks.Given as goal

-- the memories mean what they meant, and the cells of the blocks before this one are alike
abbrev pub invariant-loop-block : goal.invariant-loop-block
invariant-loop-block g l =
    (g.M.Memory.cells l.left ≡ g.M.Memory.cells l.initial.left)
    × (g.N.Memory.cells l.right ≡ g.N.Memory.cells l.initial.right)
    × ((j : ℕ) → j < l.block-index * 1024 → AlikeAt (g.M.Memory.cells l.initial.left) (g.N.Memory.cells l.initial.right) (address_in l.blocks j))
