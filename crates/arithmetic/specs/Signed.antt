-- Words as signed numbers, in two's complement.
use Rattle.std.specs.Prelude.{ℕ, ◌-◌, ◌/◌, ◌%◌, if◌then◌else◌, ℤ, pos, ◌-ℤ◌, nat_lt}

abbrev pub integer : ℕ → ℤ
integer w = if nat_lt w 32768 then pos w else pos w -ℤ pos 65536

-- rounded toward 0: the half of a negative number is that of its magnitude, negated
abbrev pub halved : ℕ → ℕ
halved d = if nat_lt d 32768 then d / 2 else (65536 - (65536 - d) / 2) % 65536
