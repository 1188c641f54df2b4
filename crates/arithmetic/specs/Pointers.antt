-- A bit and a byte of a word x, by the pointer p to it.
use Rattle.std.specs.Prelude.{ℕ, ◌+◌, ◌-◌, ◌*◌, ◌/◌, ◌%◌, ◌^◌, Bool, if◌then◌else◌, ◌==◌}

-- bits 12-15 of a bit pointer are the number of the bit, and bit 0 is the highest of sixteen
abbrev pub weight : ℕ → ℕ
weight p = 2 ^ (15 - p % 16)

abbrev pub bit_is_one : ℕ → ℕ → Bool
bit_is_one p x = x / weight p % 2 == 1

abbrev pub with_one : ℕ → ℕ → ℕ
with_one p x = if bit_is_one p x then x else x + weight p

abbrev pub with_zero : ℕ → ℕ → ℕ
with_zero p x = if bit_is_one p x then x - weight p else x

-- bit 15 of a byte pointer is 0 for the high byte and 1 for the low one
abbrev pub byte_in : ℕ → ℕ → ℕ
byte_in p x = if p % 2 == 0 then x / 256 else x % 256

abbrev pub with_byte : ℕ → ℕ → ℕ → ℕ
with_byte p x b = if p % 2 == 0 then b * 256 + x % 256 else x / 256 * 256 + b
