-- A checked number: 21 positions, of which position p has the weight 2 ^ (p - 1).
-- The positions 1, 2, 4, 8 and 16 are checks, and the others hold a word.
use Rattle.std.specs.Prelude.{◌≡◌, ℕ, zero, suc, ◌+◌, ◌-◌, ◌*◌, ◌/◌, ◌%◌, ◌^◌, ◌<◌, ◌≤◌, if◌then◌else◌, List, [], ◌∷◌, ◌==◌, bit_xor}

-- 1 where the position p of n holds a one, else 0
unfoldable pub held : ℕ → ℕ → ℕ
held n p = n / 2 ^ (p - 1) % 2

-- the exclusive or of the positions from 1 to k that hold a one
unfoldable pub syndrome_to : ℕ → ℕ → ℕ
syndrome_to zero n = 0
syndrome_to (suc k) n = bit_xor (syndrome_to k n) (suc k * held n (suc k))

-- 0 is sound, 1 to 21 names the position that is read flipped, 22 to 31 is spoiled
unfoldable pub syndrome_of : ℕ → ℕ
syndrome_of n = syndrome_to 21 n

-- the positions that hold the bits 0 to 15 of the word, of which bit 0 is the highest
abbrev pub places : List ℕ
places = 3 ∷ 5 ∷ 6 ∷ 7 ∷ 9 ∷ 10 ∷ 11 ∷ 12 ∷ 13 ∷ 14 ∷ 15 ∷ 17 ∷ 18 ∷ 19 ∷ 20 ∷ 21 ∷ []

-- the bits that the positions of a list hold, read on behind w
unfoldable pub bits_at : List ℕ → ℕ → ℕ → ℕ
bits_at [] n w = w
bits_at (p ∷ ps) n w = bits_at ps n (w * 2 + held n p)

unfoldable pub word_in : ℕ → ℕ
word_in n = bits_at places n 0

-- the 21 positions; higher bits are ignored
abbrev pub lower : ℕ → ℕ
lower n = n % 2 ^ 21

-- the number with position p turned over
abbrev pub flipped : ℕ → ℕ → ℕ
flipped n p = bit_xor n (2 ^ (p - 1))

-- the number with the position that its syndrome names turned over, where 0 names none, and no higher bits
unfoldable pub mended : ℕ → ℕ
mended n = if syndrome_of n == 0 then lower n else flipped (lower n) (syndrome_of n)

-- a number that is not spoiled is mended to one that is sound and has no higher bits
abbrev pub MendedSound : Type 0
MendedSound = (n : ℕ) → syndrome_of n < 22 → (syndrome_of (mended n) ≡ 0) × (mended n < 2 ^ 21)

-- a sound number with one position turned over: the syndrome names the position, and mending turns it back
abbrev pub FlipFound : Type 0
FlipFound =
    (n p : ℕ) → n < 2 ^ 21 → syndrome_of n ≡ 0 → 1 ≤ p → p ≤ 21 → (syndrome_of (flipped n p) ≡ p) × (mended (flipped n p) ≡ n)
