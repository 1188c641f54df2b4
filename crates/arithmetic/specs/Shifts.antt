-- Logical shifts: bits that are shifted out are lost, and zeros come in.
use Rattle.std.specs.Prelude.{ℕ, ◌+◌, ◌-◌, ◌*◌, ◌/◌, ◌%◌, ◌^◌, if◌then◌else◌, nat_lt}
use Rattle.arithmetic.specs.declared.shifts.Double.{Double}

-- a number of `width` bits, by n places
abbrev pub shifted_left : ℕ → ℕ → ℕ → ℕ
shifted_left width n x = x * 2 ^ n % 2 ^ width

abbrev pub shifted_right : ℕ → ℕ → ℕ
shifted_right n x = x / 2 ^ n

-- n is the byte of a signed number: below 128 so many places to the left, and from 128 on 256 - n places to the right
abbrev pub shifted_by_signed : ℕ → ℕ → ℕ → ℕ
shifted_by_signed width n x = if nat_lt n 128 then shifted_left width n x else shifted_right (256 - n) x

-- the bits of n + 1 hex digits, where the two lowest bits of n count
abbrev pub hex_places : ℕ → ℕ
hex_places n = 4 * (n % 4 + 1)

-- the number that two words are, and the two words of a number
abbrev pub number : Double → ℕ
number x = x.high * 65536 + x.low

abbrev pub halves : ℕ → Double
halves n = record { high = n / 65536; low = n % 65536 }
