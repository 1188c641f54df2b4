-- Worked points of the rules.
use Rattle.std.specs.Prelude.{◌≡◌, Bool, true, false, not, ℕ, ◌+◌, ◌%◌, ◌<◌, ◌≤◌}
use Rattle.memory.specs.Cells.{word, spoiled}
use Rattle.arithmetic.specs.Digits.{digit_added, digit_subtracted}
use Rattle.arithmetic.specs.Shifts.{shifted_by_signed}
use Rattle.arithmetic.specs.Signed.{halved}
use Rattle.arithmetic.specs.Unit.{operated}
use Rattle.model.specs.declared.denial.Denial.TheVariants.{Block}
use Rattle.model.specs.declared.user.Registers.{Registers}
use Rattle.model.specs.Address.{accumulator}
use Rattle.model.specs.Step.{source, destination, lob, loaded_with}
use Rattle.model.specs.Machine.{State, call, map, granted, denied}
use Rattle.checked.specs.Decoded.{decoded}

pub record Points : Type 0 where
  -- SUB of equal words with carry 0 gives 0 and carry 1
  pub sub_equal : (w : ℕ) → w < 65536 → operated 0o102400 false w w ≡ record { carry = true; word = 0 }
  -- NEG of 0 turns the carry over, NEG of 1 does not
  pub neg_zero : (c : Bool) (d : ℕ) → operated 0o100400 c 0 d ≡ record { carry = not c; word = 0 }
  pub neg_one : (c : Bool) (d : ℕ) → operated 0o100400 c 1 d ≡ record { carry = c; word = 0o177777 }
  -- DAD of 7 and 5 with carry 1 gives 3 and carry 1, DSB of 5 from 3 with carry 1 gives 8 and carry 0
  pub dad_7_5 : digit_added true 7 5 ≡ record { carry = true; word = 3 }
  pub dsb_5_3 : digit_subtracted true 5 3 ≡ record { carry = false; word = 8 }
  -- HLV of 0177777 is 0, LSH by 16 is 0, LOB of 0 adds 16
  pub hlv_177777 : halved 0o177777 ≡ 0
  pub lsh_16 : (d : ℕ) → shifted_by_signed 16 16 d ≡ 0
  pub lob_0 : (r : Registers) (w : ℕ) → accumulator r (source w) ≡ 0 → lob r w ≡ loaded_with r w ((accumulator r (destination w) + 16) % 65536)
  -- the checked numbers 7 and 6 are read as 0100000, and 66048 is spoiled
  pub checked_7 : decoded 7 ≡ word 0o100000
  pub checked_6 : decoded 6 ≡ word 0o100000
  pub checked_66048 : decoded 66048 ≡ spoiled
  -- map word 03377 is granted, and 03177 denied with 4, over any memory
  pub map_3377 : (s : State) → (call s (map 0o3377)).0 ≡ granted
  pub map_3177 : (s : State) → s.cells.size ≤ 130048 → call s (map 0o3177) ≡ (denied Block, s)
