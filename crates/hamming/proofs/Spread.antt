-- What masks and shifts do passes exclusive or through.
use Rattle.std.proofs.Common.{◌≡◌, ℕ, zero, suc, ◌+◌, ◌*◌, ◌/◌, ◌%◌, ◌^◌, ◌<◌, sym, refl, ap, ◌∙◌, ap₂, add-zero, mod-lt, zero-lt-suc, div-add-mod', arith, pow_pos}
use lib.Arith.{bin_ind}
use lib.Bits.{bit_and, bit_xor, xor_shr, xor_mod, xor_block, and_shr, and_mod}
use Rattle.std.specs.Int.{reverse_bits_onto}
use Rattle.hamming.specs.Hamming.{word_in}
use Rattle.hamming.proofs.Linear.{xor_four, word_xor}
use Rattle.hamming.proofs.Agree.{Linear}

two_pos : zero < 2
two_pos = zero-lt-suc 1

by_digits : {a b : ℕ} → a / 2 ≡ b / 2 → a % 2 ≡ b % 2 → a ≡ b
by_digits {a} {b} hi lo = sym (div-add-mod' a 2) ∙ ap₂ (λ (x y : ℕ). x * 2 + y) hi lo ∙ div-add-mod' b 2

digit_and : (x y z : ℕ) → x < 2 → y < 2 → z < 2 → bit_and (bit_xor x y) z ≡ bit_xor (bit_and x z) (bit_and y z)
digit_and zero y z hx hy hz = refl
digit_and (suc zero) zero zero hx hy hz = refl
digit_and (suc zero) zero (suc zero) hx hy hz = refl
digit_and (suc zero) zero (suc (suc z)) hx hy hz = absurd (omega arith)
digit_and (suc zero) (suc zero) zero hx hy hz = refl
digit_and (suc zero) (suc zero) (suc zero) hx hy hz = refl
digit_and (suc zero) (suc zero) (suc (suc z)) hx hy hz = absurd (omega arith)
digit_and (suc zero) (suc (suc y)) z hx hy hz = absurd (omega arith)
digit_and (suc (suc x)) y z hx hy hz = absurd (omega arith)

and_xor : (a b m : ℕ) → bit_and (bit_xor a b) m ≡ bit_xor (bit_and a m) (bit_and b m)
and_xor =
    bin_ind (λ (a : ℕ). (b m : ℕ) → bit_and (bit_xor a b) m ≡ bit_xor (bit_and a m) (bit_and b m)) (λ b m. refl)
    (λ a ih b m. by_digits
    (and_shr (bit_xor a b) m 1 ∙ ap (λ (x : ℕ). bit_and x (m / 2)) (xor_shr a b 1) ∙ ih (b / 2) (m / 2)
    ∙ sym (xor_shr (bit_and a m) (bit_and b m) 1 ∙ ap₂ bit_xor (and_shr a m 1) (and_shr b m 1)))
    (and_mod (bit_xor a b) m 1 ∙ ap (λ (x : ℕ). bit_and x (m % 2)) (xor_mod a b 1)
    ∙ digit_and (a % 2) (b % 2) (m % 2) (mod-lt a two_pos) (mod-lt b two_pos) (mod-lt m two_pos)
    ∙ sym (xor_mod (bit_and a m) (bit_and b m) 1 ∙ ap₂ bit_xor (and_mod a m 1) (and_mod b m 1))))

shl_xor : (k a b : ℕ) → bit_xor a b * 2 ^ k ≡ bit_xor (a * 2 ^ k) (b * 2 ^ k)
shl_xor k a b =
    sym (add-zero (bit_xor a b * 2 ^ k)) ∙ sym (xor_block k a b 0 0 (pow_pos k) (pow_pos k))
    ∙ ap₂ bit_xor (add-zero (a * 2 ^ k)) (add-zero (b * 2 ^ k))

-- the parts that a mask and a shift take, to the left and to the right
pub left : (m k : ℕ) → Linear (λ n. (bit_and n m * 2 ^ k) % 2 ^ 32)
left m k = record {
  xors = λ a b.
      ap (λ (x : ℕ). (x * 2 ^ k) % 2 ^ 32) (and_xor a b m) ∙ ap (λ (x : ℕ). x % 2 ^ 32) (shl_xor k (bit_and a m) (bit_and b m))
      ∙ xor_mod (bit_and a m * 2 ^ k) (bit_and b m * 2 ^ k) 32;
}

pub right : (m k : ℕ) → Linear (λ n. bit_and (n / 2 ^ k) m)
right m k = record { xors = λ a b. ap (λ (x : ℕ). bit_and x m) (xor_shr a b k) ∙ and_xor (a / 2 ^ k) (b / 2 ^ k) m }

pub whole : Linear (λ n. n)
whole = record { xors = λ a b. refl }

-- two such parts put together, and one after the other
pub join : {f g : ℕ → ℕ} → Linear f → Linear g → Linear (λ n. bit_xor (f n) (g n))
join {f} {g} lf lg = record { xors = λ a b. ap₂ bit_xor (lf.xors a b) (lg.xors a b) ∙ xor_four (f a) (f b) (g a) (g b) }

pub after : {f g : ℕ → ℕ} → Linear f → Linear g → Linear (λ n. f (g n))
after {f} {g} lf lg = record { xors = λ a b. ap f (lg.xors a b) ∙ lf.xors (g a) (g b) }

reversed_xor : (k a b v w : ℕ) → reverse_bits_onto k (bit_xor a b) (bit_xor v w) ≡ bit_xor (reverse_bits_onto k a v) (reverse_bits_onto k b w)
unfolding reverse_bits_onto
reversed_xor zero a b v w = refl
reversed_xor (suc k) a b v w =
    ap₂ (reverse_bits_onto k) (xor_shr a b 1)
    (ap (λ (x : ℕ). bit_xor v w * 2 + x) (xor_mod a b 1) ∙ sym (xor_block 1 v w (a % 2) (b % 2) (mod-lt a two_pos) (mod-lt b two_pos)))
    ∙ reversed_xor k (a / 2) (b / 2) (v * 2 + a % 2) (w * 2 + b % 2)

pub reversed : (k : ℕ) → Linear (λ n. reverse_bits_onto k n 0)
reversed k = record { xors = λ a b. reversed_xor k a b 0 0 }

pub words : Linear word_in
words = record { xors = word_xor }
