-- What the number that holds a word is, and the mended number.
use Rattle.std.proofs.Common.{◌≡◌, ℕ, zero, suc, ◌+◌, ◌-◌, ◌*◌, ◌/◌, ◌%◌, ◌^◌, ◌<◌, ◌≤◌, cond, eqb, ltb, sym, refl, ap, ◌∙◌, subst, ap₂, le_trans, lt_of_le_of_lt, mul-le-mul_right, mod-lt, mod-eq_of_lt, pow-suc, arith, lit<, eqb-true, ltb-true, true, pow_pos}
use native.Mathlib.Nat.{mod-le}
use lib.Pow.{shl-shr, field, mod-mod-pow}
use lib.Bits.{and_mask, bit_and, bit_xor, xor_self, xor_zero_r, xor_assoc, xor_lt, and_le_r}
use Rattle.std.specs.Int.{reverse_bits_onto}
use Rattle.std.proofs.lemmas.Nat.{one_shl}
use Rattle.std.proofs.lemmas.Bool.{agree_below_at, cond-false, ne_eqb}
use Rattle.hamming.specs.Hamming.{held, syndrome_to, syndrome_of, bits_at, word_in, flipped, mended, FlipFound}
use Rattle.hamming.proofs.Linear.{syndrome_xor, word_xor}
use Rattle.hamming.proofs.Agree.{Linear, agree}
use Rattle.hamming.proofs.Spread.{left, right, whole, join, after, reversed, words}

-- ---- the code's masks

abbrev pub spread : ℕ → ℕ
spread b =
    bit_xor (bit_xor (bit_xor ((bit_and b 0x1 * 2 ^ 2) % 2 ^ 32) ((bit_and b 0xe * 2 ^ 3) % 2 ^ 32)) ((bit_and b 0x7f0 * 2 ^ 4) % 2 ^ 32))
    ((bit_and b 0xf800 * 2 ^ 5) % 2 ^ 32)

abbrev pub checks : ℕ → ℕ
checks s =
    bit_xor (bit_xor (bit_xor (bit_and s 0x3) ((bit_and s 0x4 * 2 ^ 1) % 2 ^ 32)) ((bit_and s 0x8 * 2 ^ 4) % 2 ^ 32))
    ((bit_and s 0x10 * 2 ^ 11) % 2 ^ 32)

abbrev pub gather : ℕ → ℕ
gather n =
    bit_xor (bit_xor (bit_xor (bit_and (n / 2 ^ 2) 0x1) (bit_and (n / 2 ^ 3) 0xe)) (bit_and (n / 2 ^ 4) 0x7f0)) (bit_and (n / 2 ^ 5) 0xf800)

spread_linear : Linear spread
spread_linear = join (join (join (left 0x1 2) (left 0xe 3)) (left 0x7f0 4)) (left 0xf800 5)

gather_linear : Linear gather
gather_linear = join (join (join (right 0x1 2) (right 0xe 3)) (right 0x7f0 4)) (right 0xf800 5)

part_lt : (b m k : ℕ) → m * 2 ^ k < 2 ^ 21 → (bit_and b m * 2 ^ k) % 2 ^ 32 < 2 ^ 21
part_lt b m k h = lt_of_le_of_lt (le_trans (mod-le (bit_and b m * 2 ^ k) (2 ^ 32)) (mul-le-mul_right (2 ^ k) (and_le_r b m))) h

pub spread_lt : (b : ℕ) → spread b < 2 ^ 21
spread_lt b =
    xor_lt 21 _ _ (xor_lt 21 _ _ (xor_lt 21 _ _ (part_lt b 0x1 2 (lit< tt)) (part_lt b 0xe 3 (lit< tt))) (part_lt b 0x7f0 4 (lit< tt))) (part_lt b 0xf800 5 (lit< tt))

-- ---- computed tests

-- the code's word is the word, tried at each of 32 bits
pub gathers : (n : ℕ) → n < 2 ^ 32 → reverse_bits_onto 16 (gather n) 0 ≡ word_in n
unfolding reverse_bits_onto word_in bits_at held
gathers =
    agree (after (reversed 16) gather_linear) words refl 32
    (λ i h. eqb-true _ _ (agree_below_at (λ x. eqb (reverse_bits_onto 16 (gather (2 ^ x)) 0) (word_in (2 ^ x))) (λ _. true) 32 i refl h))

-- a word that is spread is read again, tried at each of 16 bits
pub spreads : (w : ℕ) → w < 2 ^ 16 → word_in (spread (reverse_bits_onto 16 w 0)) ≡ w
unfolding reverse_bits_onto word_in bits_at held
spreads =
    agree (after words (after spread_linear (reversed 16))) whole refl 16
    (λ i h. eqb-true _ _ (agree_below_at (λ x. eqb (word_in (spread (reverse_bits_onto 16 (2 ^ x) 0))) (2 ^ x)) (λ _. true) 16 i refl h))

-- the check positions hold a syndrome of their own, and nothing of a word, tried at each of 32 syndromes
module _ (s : ℕ) (h : s < 32) where
  pub checks_syndrome : syndrome_of (checks s) ≡ s
  unfolding syndrome_of syndrome_to held
  checks_syndrome = eqb-true _ _ (agree_below_at (λ x. eqb (syndrome_of (checks x)) x) (λ _. true) 32 s refl h)

  pub checks_word : word_in (checks s) ≡ 0
  unfolding word_in bits_at held
  checks_word = eqb-true _ _ (agree_below_at (λ x. eqb (word_in (checks x)) 0) (λ _. true) 32 s refl h)

  pub checks_lt : checks s < 2 ^ 21
  checks_lt = ltb-true _ _ (agree_below_at (λ x. ltb (checks x) (2 ^ 21)) (λ _. true) 32 s refl h)

-- a number with its checks
module _ (b s : ℕ) (low : s < 32) (is : s ≡ syndrome_of (spread b)) where
  pub coded_syndrome : syndrome_of (bit_xor (spread b) (checks s)) ≡ 0
  coded_syndrome =
      syndrome_xor (spread b) (checks s) ∙ ap₂ bit_xor (sym is) (checks_syndrome s low) ∙ xor_self s

  pub coded_word : word_in (bit_xor (spread b) (checks s)) ≡ word_in (spread b)
  coded_word = word_xor (spread b) (checks s) ∙ ap (bit_xor (word_in (spread b))) (checks_word s low) ∙ xor_zero_r (word_in (spread b))

  pub coded_lt : bit_xor (spread b) (checks s) < 2 ^ 21
  coded_lt = xor_lt 21 (spread b) (checks s) (spread_lt b) (checks_lt s low)

-- ---- the mended number

-- higher bits are ignored
pub held_mod : (n j k : ℕ) → k < j → held (n % 2 ^ j) (suc k) ≡ held n (suc k)
unfolding held
held_mod n j k h =
    let at : suc k - 1 ≡ k = omega arith in
    let wide : j ≡ ((j - suc k) + 1) + k = omega arith in
    ap (λ (x : ℕ). n % 2 ^ j / 2 ^ x % 2) at ∙ ap (λ (x : ℕ). n % 2 ^ x / 2 ^ k % 2) wide
    ∙ ap (λ (x : ℕ). x % 2) (field n ((j - suc k) + 1) k) ∙ mod-mod-pow (n / 2 ^ k) (j - suc k) 1
    ∙ sym (ap (λ (x : ℕ). n / 2 ^ x % 2) at)

syndrome_to_mod : (k n : ℕ) → k ≤ 21 → syndrome_to k (n % 2 ^ 21) ≡ syndrome_to k n
unfolding syndrome_to
syndrome_to_mod zero n h = refl
syndrome_to_mod (suc k) n h =
    ap₂ bit_xor (syndrome_to_mod k n (omega arith)) (ap (λ (x : ℕ). suc k * x) (held_mod n 21 k (omega arith)))

pub syndrome_mod : (n : ℕ) → syndrome_of (n % 2 ^ 21) ≡ syndrome_of n
unfolding syndrome_of
syndrome_mod n = syndrome_to_mod 21 n (omega arith)

-- the weight of a position has that position for its syndrome, tried at 0, which names none, and at each of 21
module _ (p : ℕ) (h : p < 22) where
  pub flip_syndrome : syndrome_of (2 ^ p / 2) ≡ p
  unfolding syndrome_of syndrome_to held
  flip_syndrome = eqb-true _ _ (agree_below_at (λ x. eqb (syndrome_of (2 ^ x / 2)) x) (λ _. true) 22 p refl h)

  pub flip_lt : 2 ^ p / 2 < 2 ^ 21
  flip_lt = ltb-true _ _ (agree_below_at (λ x. ltb (2 ^ x / 2) (2 ^ 21)) (λ _. true) 22 p refl h)

-- from position 1 on, 2 ^ p / 2 is the weight 2 ^ (p - 1)
weight : (s : ℕ) → 2 ^ suc s / 2 ≡ 2 ^ s
weight s = ap (λ (x : ℕ). x / 2) (pow-suc 2 s) ∙ shl-shr (2 ^ s) 1

pub flip_weight : (p : ℕ) → 1 ≤ p → 2 ^ p / 2 ≡ 2 ^ (p - 1)
flip_weight zero h = absurd (omega arith)
flip_weight (suc s) h = let at : s ≡ suc s - 1 = omega arith in weight s ∙ ap (λ (x : ℕ). 2 ^ x) at

-- sound or flipped, the mended number goes by one rule
turned : (s l : ℕ) → cond (eqb s 0) l (flipped l s) ≡ bit_xor l (2 ^ s / 2)
turned zero l = sym (xor_zero_r l)
turned (suc s) l =
    cond-false (eqb (suc s) 0) l (flipped l (suc s)) (ne_eqb (suc s) 0 (λ e. omega arith))
    ∙ ap (bit_xor l) (sym (flip_weight (suc s) (omega arith)))

pub mended_rule : (n : ℕ) → mended n ≡ bit_xor (n % 2 ^ 21) (2 ^ syndrome_of n / 2)
unfolding mended
mended_rule n = turned (syndrome_of n) (n % 2 ^ 21)

module _ (n : ℕ) (h : syndrome_of n < 22) where
  pub mended_syndrome : syndrome_of (mended n) ≡ 0
  mended_syndrome =
      ap syndrome_of (mended_rule n) ∙ syndrome_xor (n % 2 ^ 21) (2 ^ syndrome_of n / 2)
      ∙ ap₂ bit_xor (syndrome_mod n) (flip_syndrome (syndrome_of n) h) ∙ xor_self (syndrome_of n)

  pub mended_lt : mended n < 2 ^ 21
  mended_lt =
      subst (λ (x : ℕ). x < 2 ^ 21) (sym (mended_rule n))
      (xor_lt 21 (n % 2 ^ 21) (2 ^ syndrome_of n / 2) (mod-lt n (pow_pos 21)) (flip_lt (syndrome_of n) h))

-- a sound number with no higher bits is its own mending
pub mended_same : (m : ℕ) → syndrome_of m ≡ 0 → m < 2 ^ 21 → mended m ≡ m
mended_same m e l =
    mended_rule m ∙ ap₂ bit_xor (mod-eq_of_lt l) (ap (λ (x : ℕ). 2 ^ x / 2) e) ∙ xor_zero_r m

-- ---- one flip

module _ (n p : ℕ) (l : n < 2 ^ 21) (e : syndrome_of n ≡ 0) (h : p < 22) where
  flip_of : ℕ
  flip_of = bit_xor n (2 ^ p / 2)

  flip_of_syndrome : syndrome_of flip_of ≡ p
  unfolding flip_of
  flip_of_syndrome = syndrome_xor n (2 ^ p / 2) ∙ ap₂ bit_xor e (flip_syndrome p h)

  flip_of_mended : mended flip_of ≡ n
  unfolding flip_of
  flip_of_mended =
      mended_rule flip_of
      ∙ ap₂ bit_xor (mod-eq_of_lt (xor_lt 21 n (2 ^ p / 2) l (flip_lt p h))) (ap (λ (x : ℕ). 2 ^ x / 2) flip_of_syndrome)
      ∙ xor_assoc n (2 ^ p / 2) (2 ^ p / 2) ∙ ap (bit_xor n) (xor_self (2 ^ p / 2)) ∙ xor_zero_r n

pub flip_found : FlipFound
unfolding flip_of
flip_found n p l e low high =
    let h : p < 22 = omega arith in
    let at : bit_xor n (2 ^ (p - 1)) ≡ bit_xor n (2 ^ p / 2) = ap (bit_xor n) (sym (flip_weight p low)) in
    (ap syndrome_of at ∙ flip_of_syndrome n p l e h, ap mended at ∙ flip_of_mended n p l e h)

-- ---- the mended number by the code's mask and shift

pub mended_whole : (n : ℕ) → syndrome_of n ≡ 0 → mended n ≡ bit_and n 0x1fffff
unfolding mended
mended_whole n e = let low = and_mask n 21 in grind (arith, low)

pub mended_part : (n : ℕ) → 1 ≤ syndrome_of n → syndrome_of n < 22 → mended n ≡ bit_xor (bit_and n 0x1fffff) ((1 * 2 ^ (syndrome_of n - 1)) % 2 ^ 32)
unfolding mended
mended_part n h l =
    let low = and_mask n 21 in
    let one : (1 * 2 ^ (syndrome_of n - 1)) % 2 ^ 32 ≡ 2 ^ (syndrome_of n - 1) = one_shl (syndrome_of n - 1) 32 (omega arith) in
    grind (arith, low, one)
