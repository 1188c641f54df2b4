use Rattle.std.proofs.Common.{arith, rules, ltb-false, ltb-true}
use Rattle.std.proofs.lemmas.Slice.{first_rest}
use Rattle.std.proofs.lemmas.List.{nil_from_length}
use Rattle.reading.specs.Read.{after}
use Rattle.reading.proofs.text.after_word.Goals as goal

pub returns-in_default-rest : goal.returns-in_default-rest
unfolding after
returns-in_default-rest c = search rules

pub returns-then-b-w : goal.returns-then-b-w
unfolding after
returns-then-b-w c = search rules

pub loop-wanted-preserved : goal.loop-wanted-preserved
unfolding after
loop-wanted-preserved c =
    let e = first_rest c.loop-wanted.rest.now 0 (omega (arith, ltb-false)) in
    let f = first_rest c.loop-wanted.wanted.now 0 (omega (arith, ltb-false)) in
    (grind (arith, e, f), search rules)

pub returns : goal.returns
unfolding after
returns c =
    let f = nil_from_length c.loop-wanted.wanted.now (omega (arith, ltb-true)) in
    record { value = grind (arith, f); shorter = search rules }
