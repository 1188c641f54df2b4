-- Words put together by `|`, and fields past the end of a word.
use Rattle.std.proofs.Common.{◌≡◌, ℕ, ◌+◌, ◌-◌, ◌*◌, ◌/◌, ◌%◌, ◌^◌, ◌<◌, ◌≤◌, cond, eqb, sym, ap, ◌∙◌, lt_of_lt_of_le, mod-eq_of_lt, mul_assoc, add_comm, arith, pow_mono}
use native.Mathlib.Nat.{div-eq_of_lt, mul-mod_left}
use lib.Bits.{bit_and, bit_or, and_high}
use Rattle.std.proofs.lemmas.Nat.{or_shifted, or_comm, pow-add, shr_split}
use Rattle.arithmetic.specs.Unit.{split, of_carry}
use Rattle.arithmetic.specs.Pointers.{weight, bit_is_one}

-- n has zeros where b may have ones
pub or_low : (k n b : ℕ) → n % 2 ^ k ≡ 0 → b < 2 ^ k → bit_or n b ≡ n + b
or_low k n b z h =
    let e : n / 2 ^ k * 2 ^ k ≡ n = omega (arith, shr_split n k) in
    let s : bit_or (n / 2 ^ k * 2 ^ k) b ≡ n / 2 ^ k * 2 ^ k + b = or_shifted (n / 2 ^ k) k b h in
    rw e at s

pub or_high : (k n b : ℕ) → b % 2 ^ k ≡ 0 → n < 2 ^ k → bit_or n b ≡ n + b
or_high k n b z h = or_comm n b ∙ or_low k b n z h ∙ add_comm b n

-- a number of w bits has no bit above them
pub all_of_it : (w d n : ℕ) → d < 2 ^ w → w ≤ n → d % 2 ^ n ≡ d
all_of_it w d n b h = mod-eq_of_lt (lt_of_lt_of_le b (pow_mono h))

pub none_above : (w d n : ℕ) → d < 2 ^ w → w ≤ n → d / 2 ^ n ≡ 0
none_above w d n b h = div-eq_of_lt (lt_of_lt_of_le b (pow_mono h))

-- and none below them where it was shifted by as many places
pub none_below : (w d n : ℕ) → w ≤ n → d * 2 ^ n % 2 ^ w ≡ 0
none_below w d n h =
    let e : n ≡ (n - w) + w = omega arith in
    let p : d * 2 ^ n ≡ d * 2 ^ (n - w) * 2 ^ w = ap (λ k. d * 2 ^ k) e ∙ ap (λ k. d * k) (pow-add 2 (n - w) w) ∙ sym (mul_assoc d (2 ^ (n - w)) (2 ^ w)) in
    rw p (mul-mod_left (d * 2 ^ (n - w)) (2 ^ w))

-- the number that a split one stands for
pub joined : (n : ℕ) → of_carry (split n).carry + (split n).word ≡ n % 131072
joined n = grind arith

-- a mask of one bit
bit_times : (b m : ℕ) → b < 2 → b * m ≡ cond (eqb b 1) m 0
bit_times b m h = grind arith

pub masked : (p x : ℕ) → bit_and x (weight p) ≡ cond (bit_is_one p x) (weight p) 0
masked p x =
    let k = 15 - p % 16 in
    let e : 2 ^ (1 + k) - 2 ^ k ≡ 2 ^ k = omega (arith, pow-add 2 1 k) in
    let a : bit_and x (2 ^ k) ≡ x / 2 ^ k % 2 * 2 ^ k = rw e at (and_high x 1 k) in
    a ∙ bit_times (x / 2 ^ k % 2) (2 ^ k) (omega arith)
