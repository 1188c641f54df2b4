-- The worked points, each by computing.
use mathlib.Core.Path.{◌≡◌, refl, ap}
use mathlib.Core.Bool.{Bool, true, false, not}
use Prim.Native.Nat.{ℕ, ◌+◌, ◌%◌, ◌<◌, ◌≤◌}
use lib.Count.{count_leading_zeros}
use native.Mathlib.Omega.{arith}
use Rattle.memory.specs.Cells.{word, spoiled}
use Rattle.hamming.specs.Hamming.{held, syndrome_to, syndrome_of, bits_at, word_in}
use Rattle.arithmetic.specs.Digits.{digit_added, digit_subtracted}
use Rattle.arithmetic.specs.Shifts.{shifted_by_signed}
use Rattle.arithmetic.specs.Signed.{halved}
use Rattle.arithmetic.specs.Unit.{operated}
use Rattle.model.specs.declared.denial.Denial.TheVariants.{Block}
use Rattle.model.specs.declared.user.Registers.{Registers}
use Rattle.model.specs.Address.{accumulator}
use Rattle.model.specs.Step.{source, destination, lob, loaded_with}
use Rattle.model.specs.Machine.{State, call, map, sense_of_word, granted, denied}
use Rattle.checked.specs.Decoded.{decoded}
use Rattle.gauge.specs.Gauge.{Points}

neg_zero : (c : Bool) (d : ℕ) → operated 0o100400 c 0 d ≡ record { carry = not c; word = 0 }
neg_zero true d = refl
neg_zero false d = refl

neg_one : (c : Bool) (d : ℕ) → operated 0o100400 c 1 d ≡ record { carry = c; word = 0o177777 }
neg_one true d = refl
neg_one false d = refl

sub_equal : (w : ℕ) → w < 65536 → operated 0o102400 false w w ≡ record { carry = true; word = 0 }
sub_equal w h = grind arith

dad_7_5 : digit_added true 7 5 ≡ record { carry = true; word = 3 }
dad_7_5 = refl

dsb_5_3 : digit_subtracted true 5 3 ≡ record { carry = false; word = 8 }
dsb_5_3 = refl

hlv_177777 : halved 0o177777 ≡ 0
hlv_177777 = refl

lsh_16 : (d : ℕ) → shifted_by_signed 16 16 d ≡ 0
lsh_16 d = omega arith

lob_0 : (r : Registers) (w : ℕ) → accumulator r (source w) ≡ 0 → lob r w ≡ loaded_with r w ((accumulator r (destination w) + 16) % 65536)
unfolding count_leading_zeros
lob_0 r w e = ap (λ (s : ℕ). loaded_with r w ((accumulator r (destination w) + count_leading_zeros 16 s) % 65536)) e

checked_7 : decoded 7 ≡ word 0o100000
unfolding decoded held syndrome_to syndrome_of bits_at word_in
checked_7 = refl

checked_6 : decoded 6 ≡ word 0o100000
unfolding decoded held syndrome_to syndrome_of bits_at word_in
checked_6 = refl

checked_66048 : decoded 66048 ≡ spoiled
unfolding decoded held syndrome_to syndrome_of bits_at word_in
checked_66048 = refl

map_3377 : (s : State) → (call s (map 0o3377)).0 ≡ granted
unfolding sense_of_word
map_3377 s = refl

map_3177 : (s : State) → s.cells.size ≤ 130048 → call s (map 0o3177) ≡ (denied Block, s)
unfolding sense_of_word
map_3177 s h = grind arith

pub points : Points
points = record {
  sub_equal = sub_equal;
  neg_zero = neg_zero;
  neg_one = neg_one;
  dad_7_5 = dad_7_5;
  dsb_5_3 = dsb_5_3;
  hlv_177777 = hlv_177777;
  lsh_16 = lsh_16;
  lob_0 = lob_0;
  checked_7 = checked_7;
  checked_6 = checked_6;
  checked_66048 = checked_66048;
  map_3377 = map_3377;
  map_3177 = map_3177;
}
