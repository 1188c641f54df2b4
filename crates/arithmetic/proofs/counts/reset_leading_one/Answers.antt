use Rattle.std.proofs.Common.{◌≡◌, ◌-◌, arith}
use lib.Count.{count_leading_zeros}
use Rattle.std.proofs.lemmas.Nat.{leading_top}
use Rattle.arithmetic.proofs.counts.reset_leading_one.Goals as goal

pub overflow_sub-result-else-s-eq0 : goal.overflow_sub-result-else-s-eq0
overflow_sub-result-else-s-eq0 c =
    let top = leading_top 16 c.args.s (omega arith) (omega arith) in
    let place : 15 - count_leading_zeros 16 c.args.s ≡ top.0 = omega arith in
    rw place (omega arith)
