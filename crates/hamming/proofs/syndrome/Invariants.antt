use Rattle.std.proofs.Common.{◌≡◌}
use Rattle.hamming.specs.Hamming.{syndrome_to}
use Rattle.hamming.proofs.syndrome.Given as goal

abbrev pub invariant-loop-k : goal.invariant-loop-k
invariant-loop-k l = l.s ≡ syndrome_to l.k l.n
