use Rattle.std.proofs.Common.{◌≡◌, ◌-◌}
use Rattle.reading.specs.Read.{further}
use Rattle.reading.proofs.text.read_number.Given as goal

abbrev pub invariant-loop : goal.invariant-loop
invariant-loop l =
    further 5 l.initial.value l.initial.rest ≡ further (5 - l.counter) l.value l.rest
