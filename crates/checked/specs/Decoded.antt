-- The cell that a checked number stands for.
use Rattle.std.specs.Prelude.{◌≡◌, ℕ, ◌^◌, ◌<◌, ◌≤◌, if◌then◌else◌, List, length, ◌==◌, nat_lt, slice_index}
use Rattle.memory.specs.Cells.{Cell, word, spoiled, Row, row}
use Rattle.hamming.specs.Hamming.{syndrome_of, word_in, lower, flipped}

-- by the syndrome: 0 is sound, 1 to 21 names the position that is read flipped, from 22 on the cell is spoiled
unfoldable pub decoded : ℕ → Cell
decoded n =
    if syndrome_of n == 0 then word (word_in (lower n))
    else if nat_lt (syndrome_of n) 22 then word (word_in (flipped (lower n) (syndrome_of n)))
    else spoiled

abbrev pub checked : List ℕ → Row
checked ns = row (length ns) (λ k. decoded (slice_index ns k))

-- a sound number with no higher bits that holds a word, and so is read as that word
pub record Holds (n w : ℕ) : Type 0 where
  pub sound : syndrome_of n ≡ 0
  pub below : n < 2 ^ 21
  pub held : word_in n ≡ w
  pub decodes : decoded n ≡ word w

-- a sound number m with no higher bits that stands for the cell that n stands for
pub record Mends (n m : ℕ) : Type 0 where
  pub sound : syndrome_of m ≡ 0
  pub below : m < 2 ^ 21
  pub same : decoded m ≡ decoded n

-- one flip at any position of a sound number alters no cell
abbrev pub OneFlip : Type 0
OneFlip = (n p : ℕ) → n < 2 ^ 21 → syndrome_of n ≡ 0 → 1 ≤ p → p ≤ 21 → decoded (flipped n p) ≡ decoded n
