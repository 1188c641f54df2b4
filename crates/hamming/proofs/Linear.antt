-- The syndrome and the word of an exclusive or are those of its parts.
use Rattle.std.proofs.Common.{◌≡◌, ℕ, zero, suc, ◌+◌, ◌-◌, ◌*◌, ◌/◌, ◌%◌, ◌^◌, ◌<◌, List, [], ◌∷◌, length, sym, refl, ap, ◌∙◌, ap₂, add-zero, add-suc, mod-lt, zero-lt-suc, suc-add, pow-suc, mul-zero, arith}
use lib.Bits.{bit_xor, xor_zero_r, xor_self, xor_assoc, xor_comm, xor_shr, xor_mod, xor_block}
use Rattle.hamming.specs.Hamming.{held, syndrome_to, syndrome_of, bits_at, word_in, places}

pub held_lt : (n p : ℕ) → held n p < 2
unfolding held
held_lt n p = mod-lt (n / 2 ^ (p - 1)) (zero-lt-suc 1)

pub held_xor : (a b p : ℕ) → held (bit_xor a b) p ≡ bit_xor (held a p) (held b p)
unfolding held
held_xor a b p = ap (λ (x : ℕ). x % 2) (xor_shr a b (p - 1)) ∙ xor_mod (a / 2 ^ (p - 1)) (b / 2 ^ (p - 1)) 1

times_xor : (c x y : ℕ) → x < 2 → y < 2 → c * bit_xor x y ≡ bit_xor (c * x) (c * y)
times_xor c zero y hx hy = rw mul-zero
times_xor c (suc zero) zero hx hy = rw (mul-zero, xor_zero_r (c * 1))
times_xor c (suc zero) (suc zero) hx hy = rw (mul-zero, xor_self)
times_xor c (suc zero) (suc (suc y)) hx hy = absurd (omega arith)
times_xor c (suc (suc x)) y hx hy = absurd (omega arith)

pub xor_four : (a b c d : ℕ) → bit_xor (bit_xor a b) (bit_xor c d) ≡ bit_xor (bit_xor a c) (bit_xor b d)
xor_four a b c d =
    xor_assoc a b (bit_xor c d)
    ∙ ap (bit_xor a) (sym (xor_assoc b c d) ∙ ap (λ (x : ℕ). bit_xor x d) (xor_comm b c) ∙ xor_assoc c b d)
    ∙ sym (xor_assoc a c (bit_xor b d))

syndrome_to_xor : (k a b : ℕ) → syndrome_to k (bit_xor a b) ≡ bit_xor (syndrome_to k a) (syndrome_to k b)
unfolding syndrome_to
syndrome_to_xor zero a b = refl
syndrome_to_xor (suc k) a b =
    ap₂ bit_xor (syndrome_to_xor k a b)
    (ap (λ (x : ℕ). suc k * x) (held_xor a b (suc k)) ∙ times_xor (suc k) (held a (suc k)) (held b (suc k)) (held_lt a (suc k)) (held_lt b (suc k)))
    ∙ xor_four (syndrome_to k a) (syndrome_to k b) (suc k * held a (suc k)) (suc k * held b (suc k))

pub syndrome_xor : (a b : ℕ) → syndrome_of (bit_xor a b) ≡ bit_xor (syndrome_of a) (syndrome_of b)
unfolding syndrome_of
syndrome_xor a b = syndrome_to_xor 21 a b

bits_at_xor : (ps : List ℕ) (a b v w : ℕ) → bits_at ps (bit_xor a b) (bit_xor v w) ≡ bit_xor (bits_at ps a v) (bits_at ps b w)
unfolding bits_at
bits_at_xor [] a b v w = refl
bits_at_xor (p ∷ ps) a b v w =
    ap (bits_at ps (bit_xor a b))
    (ap (λ (x : ℕ). bit_xor v w * 2 + x) (held_xor a b p) ∙ sym (xor_block 1 v w (held a p) (held b p) (held_lt a p) (held_lt b p)))
    ∙ bits_at_xor ps a b (v * 2 + held a p) (w * 2 + held b p)

pub word_xor : (a b : ℕ) → word_in (bit_xor a b) ≡ bit_xor (word_in a) (word_in b)
unfolding word_in
word_xor a b = bits_at_xor places a b 0 0

-- a word has 16 bits
bits_at_lt : (ps : List ℕ) (n w k : ℕ) → w < 2 ^ k → bits_at ps n w < 2 ^ (k + length ps)
unfolding bits_at
bits_at_lt [] n w k h = rw add-zero h
bits_at_lt (p ∷ ps) n w k h =
    let b : w * 2 + held n p < 2 ^ suc k = rw pow-suc (omega (arith, held_lt n p)) in
    rw (add-suc, ← suc-add) (bits_at_lt ps n (w * 2 + held n p) (suc k) b)

pub word_lt : (n : ℕ) → word_in n < 2 ^ 16
unfolding word_in
word_lt n = bits_at_lt places n 0 0 (omega arith)
