-- Mending alters no cell, one flip alters none, and an encoded word is that word.
use Rattle.std.proofs.Common.{◌≡◌, ℕ, ◌^◌, ◌<◌, Bool, true, false, cond, Some, None, Option, SomeIff, eqb, ltb, sym, refl, ap, ◌∙◌, arith}
use Rattle.std.proofs.lemmas.Bool.{lt-ltb, le-ltb, ne_eqb, cond-true, cond-false}
use Rattle.memory.specs.Cells.{word, spoiled}
use Rattle.hamming.specs.Hamming.{syndrome_of, word_in, lower, flipped, mended}
use Rattle.hamming.proofs.Codes.{mended_syndrome, mended_lt, mended_same, flip_found}
use Rattle.checked.specs.Decoded.{decoded, Mends, OneFlip}

-- the cases of the cell are those of the mended number
by_cases : (b c : Bool) (x y : ℕ)
    → c ≡ true → cond b (word (word_in x)) (cond c (word (word_in y)) spoiled) ≡ word (word_in (cond b x y))
by_cases true c x y e = refl
by_cases false c x y e = cond-true c (word (word_in y)) spoiled e

decoded_word : (n : ℕ) → syndrome_of n < 22 → decoded n ≡ word (word_in (mended n))
unfolding decoded mended
decoded_word n h =
    by_cases (eqb (syndrome_of n) 0) (ltb (syndrome_of n) 22) (lower n) (flipped (lower n) (syndrome_of n)) (lt-ltb (syndrome_of n) 22 h)

decoded_spoiled : (n : ℕ) → (syndrome_of n < 22 → ⊥) → decoded n ≡ spoiled
unfolding decoded
decoded_spoiled n h =
    cond-false (eqb (syndrome_of n) 0) _ _ (ne_eqb (syndrome_of n) 0 (λ e. h (omega arith)))
    ∙ cond-false (ltb (syndrome_of n) 22) _ _ (le-ltb (syndrome_of n) 22 (omega arith))

-- a sound number with no higher bits stands for the word that it holds
pub decoded_sound : (n : ℕ) → syndrome_of n ≡ 0 → n < 2 ^ 21 → decoded n ≡ word (word_in n)
decoded_sound n s l = decoded_word n (omega arith) ∙ ap (λ (x : ℕ). word (word_in x)) (mended_same n s l)

decoded_mended : (n : ℕ) → syndrome_of n < 22 → decoded (mended n) ≡ decoded n
decoded_mended n h = decoded_sound (mended n) (mended_syndrome n h) (mended_lt n h) ∙ sym (decoded_word n h)

-- what the answer of a mending tells of the cell
pub mended_cell : {r : Option ℕ} (n m : ℕ) → SomeIff r (syndrome_of n < 22) (mended n) → r ≡ Some m → Mends n m × (decoded n ≡ word (word_in m))
mended_cell {r = None} n m a e = absurd (cc e)
mended_cell {r = Some x} n m (h, b) e =
    let c : m ≡ mended n = cc in
    rw c (record { sound = mended_syndrome n h; below = mended_lt n h; same = decoded_mended n h }, decoded_word n h)

pub spoiled_cell : {r : Option ℕ} (n : ℕ) → SomeIff r (syndrome_of n < 22) (mended n) → r ≡ None → decoded n ≡ spoiled
spoiled_cell {r = None} n a e = decoded_spoiled n a
spoiled_cell {r = Some x} n a e = absurd (cc e)

pub one_flip : OneFlip
one_flip n p l e low high =
    let f = flip_found n p l e low high in
    decoded_word (flipped n p) (omega (arith, f.0)) ∙ ap (λ (x : ℕ). word (word_in x)) f.1 ∙ sym (decoded_sound n e l)
