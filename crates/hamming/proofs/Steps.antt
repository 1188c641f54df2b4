-- One turn of the loop that takes the syndrome.
use Rattle.std.proofs.Common.{◌≡◌, ℕ, zero, suc, ◌+◌, ◌*◌, ◌/◌, ◌%◌, ◌^◌, ◌<◌, sym, refl, ap, ◌∙◌, mul-zero, mul-one, add-one, arith}
use lib.Bits.{bit_and, bit_xor, xor_zero_r, xor_lt, and_mask}
use Rattle.hamming.specs.Hamming.{held, syndrome_to, syndrome_of}
use Rattle.hamming.proofs.Linear.{held_lt}

-- what the code reads at a shift by k
pub read : (n k : ℕ) → held n (suc k) ≡ bit_and (n / 2 ^ k) 1
unfolding held
read n k = ap (λ (x : ℕ). n / 2 ^ x % 2) (omega arith) ∙ sym (and_mask (n / 2 ^ k) 1)

pub set : (n k : ℕ) → bit_and (n / 2 ^ k) 1 ≡ 1 → bit_xor (syndrome_to k n) (k + 1) ≡ syndrome_to (k + 1) n
unfolding syndrome_to
set n k e = rw (add-one, read n k, e, mul-one)

pub not_one : (x : ℕ) → x < 2 → (x ≡ 1 → ⊥) → x ≡ 0
not_one zero h f = refl
not_one (suc zero) h f = absurd (f refl)
not_one (suc (suc x)) h f = absurd (omega arith)

pub unset : (n k : ℕ) → (bit_and (n / 2 ^ k) 1 ≡ 1 → ⊥) → syndrome_to k n ≡ syndrome_to (k + 1) n
unfolding syndrome_to
unset n k not =
    let z : held n (suc k) ≡ 0 = not_one (held n (suc k)) (held_lt n (suc k)) (λ e. not (sym (read n k) ∙ e)) in
    rw (add-one, z, mul-zero, xor_zero_r)

pub low : (k n : ℕ) → k < 32 → syndrome_to k n < 32
unfolding syndrome_to
low zero n h = omega arith
low (suc k) n h = xor_lt 5 (syndrome_to k n) (suc k * held n (suc k)) (low k n (omega arith)) (part (held n (suc k)) (held_lt n (suc k)))
  where
    part : (x : ℕ) → x < 2 → suc k * x < 32
    part zero j = rw mul-zero (omega arith)
    part (suc zero) j = rw mul-one h
    part (suc (suc x)) j = absurd (omega arith)

pub syndrome_low : (n : ℕ) → syndrome_of n < 32
unfolding syndrome_of
syndrome_low n = low 21 n (omega arith)
