use Rattle.std.proofs.Common.{rules}
use Rattle.machine.specs.Machine.{modelled}
use Rattle.sheets.proofs.KindsKept.{map_kept, same_kinds}
use Rattle.sheets.proofs.desk.Desk.act.Goals as goal
use Rattle.sheets.proofs.desk.Desk.act.Goals.{in-Map, in-Put, in-Start, in-Run}

pub invariant_of-result : goal.invariant_of-result
invariant_of-result g c =
    elim c.match-row.branch [
      | in-Map w ↦
          let k = map_kept (modelled g.M.Memory.cells c.args.self.machine) w.in-Map.word in
          let e = same_kinds w.map_row.ensures in
          search rules
      | in-Put w ↦ search rules
      | in-Start w ↦ search rules
      | in-Run w ↦ search rules
    ]
