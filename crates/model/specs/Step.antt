-- What each word does, over logical addresses, in the order in which the machine reads and writes.
use Rattle.std.specs.Prelude.{ℕ, ◌+◌, ◌-◌, ◌*◌, ◌/◌, ◌%◌, Bool, cond, if◌then◌else◌, ◌==◌, Option, Some, None, bit_and, bit_or, bit_xor, count_ones, int_le, int_lt, nat_lt, ℤ}
use Rattle.std.specs.Int.Count.{count_leading_zeros}
use Rattle.arithmetic.specs.Counts.{without_leading_one}
use Rattle.arithmetic.specs.Digits.{digit_added, digit_subtracted}
use Rattle.arithmetic.specs.Shifts.{shifted_left, shifted_right, shifted_by_signed, hex_places, number, halves}
use Rattle.arithmetic.specs.Signed.{integer, halved}
use Rattle.arithmetic.specs.Unit.{operated, skipping}
use Rattle.arithmetic.specs.declared.shifts.Double.{Double}
use Rattle.arithmetic.specs.declared.unit.Wide.{Wide}
use Rattle.model.specs.declared.steps.Operation.{Operation}
use Rattle.model.specs.declared.steps.Operation.TheVariants.{Jmp, Jsr, Isz, Dsz, Lda, Sta, InputOutput, TwoAccumulator, Adi, Sbi, Dad, Dsb, Ior, Xor, Anc, Xch, Sgt, Sge, Lsh, Dlsh, Hxl, Hxr, Dhxl, Dhxr, Lob, Lrb, Cob, Hlv, Iori, Xori, Andi, Addi, Lmp, Syc}
use Rattle.model.specs.declared.steps.Outcome.{Outcome}
use Rattle.model.specs.declared.steps.Outcome.TheVariants.{Next, Called}
use Rattle.model.specs.declared.user.Registers.{Registers}
use Rattle.model.specs.declared.user.Switches.{Switches}
use Rattle.model.specs.Faults.{device, code}
use Rattle.model.specs.Access.{Access, ret, halt, reading, writing, ◌>>=◌}
use Rattle.model.specs.Address.{accumulator, with_accumulator, with_carry, with_pc, moved, raised_by_one, lowered_by_one, effective}

-- ---- which operation a word asks for

-- bit 0 is 0: by bits 1-4
abbrev pub decoded_low : ℕ → Operation
decoded_low w =
    if w / 2048 % 16 == 0 then Jmp
    else if w / 2048 % 16 == 1 then Jsr
    else if w / 2048 % 16 == 2 then Isz
    else if w / 2048 % 16 == 3 then Dsz
    else if nat_lt (w / 2048 % 16) 8 then Lda
    else if nat_lt (w / 2048 % 16) 12 then Sta
    else InputOutput

-- bit 0 is 1 and bits 12-15 are 010. A code names no accumulator in bits 1-4, or one in bits 3-4, or two; the bits of
-- those that it names are 0 in the lists below
abbrev pub without_two : ℕ → ℕ
without_two w = 32768 + w % 2048

abbrev pub without_one : ℕ → ℕ
without_one w = w / 8192 * 8192 + w % 2048

abbrev pub decoded_none : ℕ → Option Operation
decoded_none w = if w == 0o113410 then Some Lmp else None

abbrev pub decoded_one : ℕ → Option Operation
decoded_one w =
    if without_one w == 0o143370 then Some Hlv
    else if without_one w == 0o103770 then Some Iori
    else if without_one w == 0o123770 then Some Xori
    else if without_one w == 0o143770 then Some Andi
    else if without_one w == 0o163770 then Some Addi
    else decoded_none w

abbrev pub decoded_two : ℕ → Option Operation
decoded_two w =
    if without_two w == 0o100010 then Some Adi
    else if without_two w == 0o100110 then Some Sbi
    else if without_two w == 0o100210 then Some Dad
    else if without_two w == 0o100310 then Some Dsb
    else if without_two w == 0o100410 then Some Ior
    else if without_two w == 0o100510 then Some Xor
    else if without_two w == 0o100610 then Some Anc
    else if without_two w == 0o100710 then Some Xch
    else if without_two w == 0o101010 then Some Sgt
    else if without_two w == 0o101110 then Some Sge
    else if without_two w == 0o101210 then Some Lsh
    else if without_two w == 0o101310 then Some Dlsh
    else if without_two w == 0o101410 then Some Hxl
    else if without_two w == 0o101510 then Some Hxr
    else if without_two w == 0o101610 then Some Dhxl
    else if without_two w == 0o101710 then Some Dhxr
    else if without_two w == 0o102410 then Some Lob
    else if without_two w == 0o102510 then Some Lrb
    else if without_two w == 0o102610 then Some Cob
    else if without_two w == 0o103510 then Some Syc
    else decoded_one w

-- none where the word is not listed
abbrev pub decoded : ℕ → Option Operation
decoded w = if nat_lt w 32768 then Some (decoded_low w) else if w % 16 == 0o10 then decoded_two w else Some TwoAccumulator

-- ---- the operations: r is the registers before, w the word

-- bits 1-2 and 3-4
abbrev pub source : ℕ → ℕ
source w = w / 8192 % 4

abbrev pub destination : ℕ → ℕ
destination w = w / 2048 % 4

-- a completed instruction, with the registers after it
abbrev pub Effect : Type 1
Effect = Access (Outcome × Registers)

abbrev pub jmp : Switches → Registers → ℕ → Effect
jmp s r w = do
  at ← effective s r w
  ret (Next, with_pc r at)

-- AC3 keeps the address of the next word
abbrev pub jsr : Switches → Registers → ℕ → Effect
jsr s r w = do
  at ← effective s r w
  ret (Next, with_pc (with_accumulator r 3 (moved r 1).pc) at)

-- a word is counted, and the next one skipped where the count comes to 0
abbrev pub counted : (ℕ → ℕ) → Switches → Registers → ℕ → Effect
counted f s r w = do
  at ← effective s r w
  n ← reading at
  _ ← writing at (f n)
  ret (Next, moved r (if f n == 0 then 2 else 1))

abbrev pub isz : Switches → Registers → ℕ → Effect
isz = counted raised_by_one

abbrev pub dsz : Switches → Registers → ℕ → Effect
dsz = counted lowered_by_one

abbrev pub lda : Switches → Registers → ℕ → Effect
lda s r w = do
  at ← effective s r w
  n ← reading at
  ret (Next, moved (with_accumulator r (destination w) n) 1)

abbrev pub sta : Switches → Registers → ℕ → Effect
sta s r w = do
  at ← effective s r w
  _ ← writing at (accumulator r (destination w))
  ret (Next, moved r 1)

-- bit 12 keeps the result from being loaded
abbrev pub loading : Registers → ℕ → Wide → Registers
loading r w x = if w / 8 % 2 == 0 then with_carry (with_accumulator r (destination w) x.word) x.carry else r

abbrev pub two_accumulator : Registers → ℕ → Outcome × Registers
two_accumulator r w =
    let x = operated w r.carry (accumulator r (source w)) (accumulator r (destination w)) in
    (Next, moved (loading r w x) (if skipping w x then 2 else 1))

-- ---- operations on accumulators alone: s is the source's word and d the destination's

abbrev pub sourced : Registers → ℕ → ℕ
sourced r w = accumulator r (source w)

abbrev pub aimed : Registers → ℕ → ℕ
aimed r w = accumulator r (destination w)

-- the destination becomes x
abbrev pub loaded_with : Registers → ℕ → ℕ → Outcome × Registers
loaded_with r w x = (Next, moved (with_accumulator r (destination w) x) 1)

-- the destination becomes what f makes of it (`changed`), or of the source and it (`combined`)
abbrev pub changed : (ℕ → ℕ) → Registers → ℕ → Outcome × Registers
changed f r w = loaded_with r w (f (aimed r w))

abbrev pub combined : (ℕ → ℕ → ℕ) → Registers → ℕ → Outcome × Registers
combined f r w = changed (f (sourced r w)) r w

-- the immediate field stands where the source does, and is one less than what is added or subtracted
abbrev pub adi : Registers → ℕ → Outcome × Registers
adi r w = changed (λ d. (d + (source w + 1)) % 65536) r w

abbrev pub sbi : Registers → ℕ → Outcome × Registers
sbi r w = changed (λ d. (d + 65536 - (source w + 1)) % 65536) r w

-- the destination's word with the carry, and both loaded
abbrev pub wide : Registers → ℕ → Wide
wide r w = record { carry = r.carry; word = aimed r w }

abbrev pub with_wide : Registers → ℕ → Wide → Outcome × Registers
with_wide r w x = (Next, moved (with_carry (with_accumulator r (destination w) x.word) x.carry) 1)

abbrev pub digit : (Bool → ℕ → ℕ → Wide) → Registers → ℕ → Outcome × Registers
digit f r w = with_wide r w (f r.carry (sourced r w) (aimed r w))

-- the complement of the source and the destination
abbrev pub anc : Registers → ℕ → Outcome × Registers
anc = combined (λ s d. bit_and (65535 - s) d)

abbrev pub xch : Registers → ℕ → Outcome × Registers
xch r w = (Next, moved (with_accumulator (with_accumulator r (source w) (aimed r w)) (destination w) (sourced r w)) 1)

-- the next word is skipped where b is true
abbrev pub skip_if : Bool → Registers → Outcome × Registers
skip_if b r = (Next, moved r (if b then 2 else 1))

-- or where f holds of the two signed numbers
abbrev pub compared : (ℤ → ℤ → Bool) → Registers → ℕ → Outcome × Registers
compared f r w = skip_if (f (integer (sourced r w)) (integer (aimed r w))) r

abbrev pub sgt : Registers → ℕ → Outcome × Registers
sgt = compared (λ s d. int_lt d s)

abbrev pub sge : Registers → ℕ → Outcome × Registers
sge = compared (λ s d. int_le d s)

-- bits 8-15 of the source are a signed count
abbrev pub lsh : Registers → ℕ → Outcome × Registers
lsh = combined (λ s d. shifted_by_signed 16 (s % 256) d)

-- the immediate field is one less than the hex digits that are shifted
abbrev pub hxl : Registers → ℕ → Outcome × Registers
hxl r w = changed (shifted_left 16 (hex_places (source w))) r w

abbrev pub hxr : Registers → ℕ → Outcome × Registers
hxr r w = changed (shifted_right (hex_places (source w))) r w

-- two adjoining accumulators, the destination and the next, are one number of 32 bits; after AC3 comes AC0
abbrev pub next_to : ℕ → ℕ
next_to n = (n + 1) % 4

abbrev pub doubled : Registers → ℕ → Double
doubled r w = record { high = aimed r w; low = accumulator r (next_to (destination w)) }

abbrev pub with_double : Registers → ℕ → Double → Outcome × Registers
with_double r w x = (Next, moved (with_accumulator (with_accumulator r (destination w) x.high) (next_to (destination w)) x.low) 1)

abbrev pub changed_double : (ℕ → ℕ) → Registers → ℕ → Outcome × Registers
changed_double f r w = with_double r w (halves (f (number (doubled r w))))

abbrev pub dlsh : Registers → ℕ → Outcome × Registers
dlsh r w = changed_double (shifted_by_signed 32 (sourced r w % 256)) r w

abbrev pub dhxl : Registers → ℕ → Outcome × Registers
dhxl r w = changed_double (shifted_left 32 (hex_places (source w))) r w

abbrev pub dhxr : Registers → ℕ → Outcome × Registers
dhxr r w = changed_double (shifted_right (hex_places (source w))) r w

-- the zeros before the highest one of the source are counted onto the destination
abbrev pub lob : Registers → ℕ → Outcome × Registers
lob = combined (λ s d. (d + count_leading_zeros 16 s) % 65536)

-- the same, and that one is taken away; of one accumulator no count is taken
abbrev pub lrb : Registers → ℕ → Outcome × Registers
lrb r w =
    let q = if source w == destination w then r else with_accumulator r (destination w) ((aimed r w + count_leading_zeros 16 (sourced r w)) % 65536) in
    (Next, moved (with_accumulator q (source w) (without_leading_one (sourced r w))) 1)

-- the ones of the source are counted onto the destination
abbrev pub cob : Registers → ℕ → Outcome × Registers
cob = combined (λ s d. (d + count_ones s) % 65536)

-- the second word is the operand; it is fetched through the map
abbrev pub second : Registers → Access ℕ
second r = reading (moved r 1).pc

abbrev pub loaded_past : Registers → ℕ → ℕ → Outcome × Registers
loaded_past r w x = (Next, moved (with_accumulator r (destination w) x) 2)

abbrev pub immediate : (ℕ → ℕ → ℕ) → Registers → ℕ → Effect
immediate f r w = do
  i ← second r
  ret (loaded_past r w (f i (aimed r w)))

abbrev pub added : ℕ → ℕ → ℕ
added x y = (x + y) % 65536

-- nothing is loaded into the map by a user
abbrev pub lmp : Registers → Outcome × Registers
lmp r = (Next, moved r 1)

-- the supervisor is called
abbrev pub syc : Registers → Outcome × Registers
syc r = (Called, moved r 1)

-- an I/O word is a device's, unless LEF is on
abbrev pub input_output : Switches → Effect
input_output s = cond s.lef (halt code) (halt device)

abbrev pub operation : Switches → Registers → Operation → ℕ → Effect
operation s r Jmp w = jmp s r w
operation s r Jsr w = jsr s r w
operation s r Isz w = isz s r w
operation s r Dsz w = dsz s r w
operation s r Lda w = lda s r w
operation s r Sta w = sta s r w
operation s r InputOutput w = input_output s
operation s r TwoAccumulator w = ret (two_accumulator r w)
operation s r Adi w = ret (adi r w)
operation s r Sbi w = ret (sbi r w)
operation s r Dad w = ret (digit digit_added r w)
operation s r Dsb w = ret (digit digit_subtracted r w)
operation s r Ior w = ret (combined bit_or r w)
operation s r Xor w = ret (combined bit_xor r w)
operation s r Anc w = ret (anc r w)
operation s r Xch w = ret (xch r w)
operation s r Sgt w = ret (sgt r w)
operation s r Sge w = ret (sge r w)
operation s r Lsh w = ret (lsh r w)
operation s r Dlsh w = ret (dlsh r w)
operation s r Hxl w = ret (hxl r w)
operation s r Hxr w = ret (hxr r w)
operation s r Dhxl w = ret (dhxl r w)
operation s r Dhxr w = ret (dhxr r w)
operation s r Lob w = ret (lob r w)
operation s r Lrb w = ret (lrb r w)
operation s r Cob w = ret (cob r w)
operation s r Hlv w = ret (changed halved r w)
operation s r Iori w = immediate bit_or r w
operation s r Xori w = immediate bit_xor r w
operation s r Andi w = immediate bit_and r w
operation s r Addi w = immediate added r w
operation s r Lmp w = ret (lmp r)
operation s r Syc w = ret (syc r)

-- a word that is not listed is not carried out
abbrev pub effect_of : Switches → Registers → ℕ → Option Operation → Effect
effect_of s r w (Some op) = operation s r op w
effect_of s r w None = halt code

-- the word w, fetched at the PC
unfoldable pub instruction : Switches → Registers → ℕ → Effect
instruction s r w = effect_of s r w (decoded w)
