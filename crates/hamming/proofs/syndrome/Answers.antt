use Rattle.std.proofs.Common.{◌≡◌, ℕ, ◌<◌, sym, refl, ap, ◌∙◌, subst, arith, rules}
use Rattle.hamming.specs.Hamming.{syndrome_to, syndrome_of}
use Rattle.hamming.proofs.Steps.{set, unset, syndrome_low}
use Rattle.hamming.proofs.syndrome.Goals as goal

pub loop-k-init : goal.loop-k-init
unfolding syndrome_to
loop-k-init c = refl

pub loop-k-preserved : goal.loop-k-preserved
unfolding syndrome_to
loop-k-preserved c = search (rules, set, unset)

pub returns : goal.returns
unfolding syndrome_of
returns c =
    let all : c.loop-k.k ≡ 21 = omega arith in
    let is : c.loop-k.s ≡ syndrome_of c.args.n = c.loop-k.invariant ∙ ap (λ (k : ℕ). syndrome_to k c.args.n) all in
    record { is = is; low = subst (λ (x : ℕ). x < 32) (sym is) (syndrome_low c.args.n) }
