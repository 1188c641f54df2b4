use Rattle.model.proofs.Equality.{registers_decides, map_decides, kind_decides, latest_decides, differing, not_differing}
use Rattle.machine.proofs.compare.compare_users.Goals as goal

pub returns-then-ne-2 : goal.returns-then-ne-2
returns-then-ne-2 c = (
  not_differing (registers_decides _ _) c.ne.ensures c.if-ne.false,
  differing (map_decides _ _) c.ne-else-ne.ensures c.if-ne-2.true,
)

pub returns-then-ne-3 : goal.returns-then-ne-3
returns-then-ne-3 c = (
  not_differing (registers_decides _ _) c.ne.ensures c.if-ne.false,
  not_differing (map_decides _ _) c.ne-else-ne.ensures c.if-ne-2.false,
  differing (kind_decides _ _) c.ne-else-ne-2.ensures c.if-ne-3.true,
)

pub returns-then-ne-4 : goal.returns-then-ne-4
returns-then-ne-4 c = (
  not_differing (registers_decides _ _) c.ne.ensures c.if-ne.false,
  not_differing (map_decides _ _) c.ne-else-ne.ensures c.if-ne-2.false,
  not_differing (kind_decides _ _) c.ne-else-ne-2.ensures c.if-ne-3.false,
  differing (latest_decides _ _) c.ne-else-ne-3.ensures c.if-ne-4.true,
)

pub returns-else-ne-4 : goal.returns-else-ne-4
returns-else-ne-4 c =
    let registers = not_differing (registers_decides c.args.left.now.registers c.args.right.now.registers) c.ne.ensures c.if-ne.false in
    let map = not_differing (map_decides c.args.left.now.map c.args.right.now.map) c.ne-else-ne.ensures c.if-ne-2.false in
    let kind = not_differing (kind_decides c.args.left.now.kind c.args.right.now.kind) c.ne-else-ne-2.ensures c.if-ne-3.false in
    let latest = not_differing (latest_decides c.args.left.now.latest c.args.right.now.latest) c.ne-else-ne-3.ensures c.if-ne-4.false in
    λ i. record { registers = registers i; map = map i; kind = kind i; latest = latest i }
