-- Where an instruction's operand is: bases, displacements and indirect chains.
use Rattle.std.specs.Prelude.{ℕ, zero, suc, ◌+◌, ◌-◌, ◌/◌, ◌%◌, Bool, cond, if◌then◌else◌, ◌&&◌, ◌==◌, nat_le, nat_lt, slice_index, slice_set}
use Rattle.model.specs.declared.user.Registers.{Registers}
use Rattle.model.specs.declared.user.Switches.{Switches}
use Rattle.model.specs.Faults.{chain}
use Rattle.model.specs.Access.{Access, ret, halt, reading, writing, ◌>>=◌}

-- ---- registers

abbrev pub accumulator : Registers → ℕ → ℕ
accumulator r n = slice_index r.ac n

abbrev pub with_accumulator : Registers → ℕ → ℕ → Registers
with_accumulator r n w = record { ac = slice_set r.ac n w; carry = r.carry; pc = r.pc }

abbrev pub with_carry : Registers → Bool → Registers
with_carry r c = record { ac = r.ac; carry = c; pc = r.pc }

abbrev pub with_pc : Registers → ℕ → Registers
with_pc r a = record { ac = r.ac; carry = r.carry; pc = a }

-- so many words on; addresses and the PC wrap at 15 bits
abbrev pub moved : Registers → ℕ → Registers
moved r n = with_pc r ((r.pc + n) % 32768)

-- ---- the first address

-- a displacement of eight bits, signed: from 0200 on it stands for itself less 0400
abbrev pub displaced : ℕ → ℕ → ℕ
displaced b d = if nat_lt d 128 then (b + d) % 32768 else (b + d + 32768 - 256) % 32768

-- bits 6-7 of the word give the base: none, the instruction's address, AC2 or AC3; bits 8-15 are the displacement
abbrev pub first_address : Registers → ℕ → ℕ
first_address r w =
    if w / 256 % 4 == 0 then w % 256
    else if w / 256 % 4 == 1 then displaced r.pc (w % 256)
    else displaced (accumulator r (w / 256 % 4)) (w % 256)

-- ---- indirect chains

-- the 17th fetch of a chain is one too many; with indirect protection off, the 4,097th
abbrev pub chain_limit : Switches → ℕ
chain_limit s = if s.indirect then 16 else 4096

-- an automatic location: 020-027 are raised and 030-037 lowered by one and written back before use
abbrev pub raised_by_one : ℕ → ℕ
raised_by_one w = (w + 1) % 65536

abbrev pub lowered_by_one : ℕ → ℕ
lowered_by_one w = (w + 65535) % 65536

abbrev pub replaced : ℕ → ℕ → Access ℕ
replaced a w = do
  _ ← writing a w
  ret w

-- one fetch of a chain: the new value of an automatic location gives address and bit 0. Accesses are chosen by `cond`,
-- since `if` chooses between values of the lowest types alone
abbrev pub link : ℕ → Access ℕ
link a = do
  w ← reading a
  cond (nat_le 16 a && nat_lt a 24) (replaced a (raised_by_one w))
      (cond (nat_le 24 a && nat_lt a 32) (replaced a (lowered_by_one w)) (ret w))

-- an address followed through at most n fetches: bits 1-15 of each word, on and on while bit 0 is 1
abbrev pub follow : ℕ → ℕ → Access ℕ
follow a zero = halt (chain a)
follow a (suc n) = do
  w ← link a
  cond (nat_lt w 32768) (ret w) (follow (w % 32768) n)

-- the address of the operand; bit 5 of the word says that it is indirect
abbrev pub effective : Switches → Registers → ℕ → Access ℕ
effective s r w = cond (w / 1024 % 2 == 1) (follow (first_address r w) (chain_limit s)) (ret (first_address r w))
