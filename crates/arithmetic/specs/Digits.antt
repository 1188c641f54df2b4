-- Decimal digits: a word's digit is its four lowest bits, of any value below 16.
use Rattle.std.specs.Prelude.{ℕ, ◌+◌, ◌-◌, ◌*◌, ◌/◌, ◌%◌, Bool, if◌then◌else◌, nat_le, nat_lt}
use Rattle.arithmetic.specs.declared.unit.Wide.{Wide}

-- the word w with the digit n, of which four bits count
abbrev pub with_digit : ℕ → ℕ → ℕ
with_digit w n = w / 16 * 16 + n % 16

abbrev pub digit_sum : Bool → ℕ → ℕ → ℕ
digit_sum c s d = s % 16 + d % 16 + (if c then 1 else 0)

-- a sum over 9 carries, and leaves 6 more than it is
abbrev pub digit_added : Bool → ℕ → ℕ → Wide
digit_added c s d = record {
  carry = nat_lt 9 (digit_sum c s d);
  word = with_digit d (digit_sum c s d + (if nat_lt 9 (digit_sum c s d) then 6 else 0));
}

-- 16 more than the difference d - s - 1 + c of the digits, which may be as low as -16
abbrev pub digit_difference : Bool → ℕ → ℕ → ℕ
digit_difference c s d = 16 + d % 16 - s % 16 - 1 + (if c then 1 else 0)

-- a difference below 0 leaves no carry, and 10 more than it is
abbrev pub digit_subtracted : Bool → ℕ → ℕ → Wide
digit_subtracted c s d = record {
  carry = nat_le 16 (digit_difference c s d);
  word = with_digit d (digit_difference c s d + (if nat_le 16 (digit_difference c s d) then 0 else 10));
}
