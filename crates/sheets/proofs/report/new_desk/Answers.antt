use Rattle.std.proofs.Common.{◌≡◌, vec_items, ap, ◌∙◌, rules}
use Rattle.memory.specs.Cells.{sound}
use Rattle.model.specs.Machine.{fresh}
use Rattle.sheets.specs.Desks.{core_cells}
use Rattle.sheets.proofs.Rows.{zeros_blank}
use Rattle.sheets.proofs.report.new_desk.Goals as goal

pub returns : goal.returns
returns c =
    let words = vec_items c.in_ok-vec.field-0 in
    let k : core_cells c.in-Ok.core ≡ sound words = search rules in
    let z = zeros_blank words (c.in_ok-vec.ensures.items_if_clones_equal (λ y e. e)) in
    c.new-machine.ensures.state ∙ ap fresh (k ∙ z)
