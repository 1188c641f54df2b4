-- The two-accumulator operations, on the number of 17 bits that carry and a word make: carry * 65536 + word.
use Rattle.std.specs.Prelude.{ℕ, ◌+◌, ◌-◌, ◌*◌, ◌/◌, ◌%◌, Bool, true, false, if◌then◌else◌, not, ◌&&◌, ◌||◌, ◌==◌, bit_and, nat_le}
use Rattle.arithmetic.specs.declared.unit.Wide.{Wide}
use Rattle.arithmetic.specs.declared.unit.Function.{Function}
use Rattle.arithmetic.specs.declared.unit.Function.TheVariants.{Com, Neg, Mov, Inc, Adc, Sub, Add, And}
use Rattle.arithmetic.specs.declared.unit.Shift.{Shift}
use Rattle.arithmetic.specs.declared.unit.Shift.TheVariants.{Straight, Left, Right, Swap}
use Rattle.arithmetic.specs.declared.unit.CarryBase.{CarryBase}
use Rattle.arithmetic.specs.declared.unit.CarryBase.TheVariants.{Keep, Zero, One, Complement}
use Rattle.arithmetic.specs.declared.unit.Skip.{Skip}
use Rattle.arithmetic.specs.declared.unit.Skip.TheVariants.{Never, Always, CarryZero, CarryOne, ResultZero, ResultNot, EitherZero, BothNot}

-- the carry and the word of a number, of which 17 bits count
abbrev pub split : ℕ → Wide
split n = record { carry = nat_le 65536 (n % 131072); word = n % 65536 }

abbrev pub of_carry : Bool → ℕ
of_carry b = if b then 65536 else 0

abbrev pub base_carry : CarryBase → Bool → Bool
base_carry Keep c = c
base_carry Zero c = false
base_carry One c = true
base_carry Complement c = not c

-- c is the carry's 0 or 65536, s the source and d the destination; a sum over 65,535 thus complements the carry
abbrev pub computed : Function → ℕ → ℕ → ℕ → ℕ
computed Com c s d = c + (65535 - s)
computed Neg c s d = c + (65535 - s) + 1
computed Mov c s d = c + s
computed Inc c s d = c + s + 1
computed Adc c s d = c + (65535 - s) + d
computed Sub c s d = c + (65535 - s) + d + 1
computed Add c s d = c + s + d
computed And c s d = c + bit_and s d

-- the 17 bits as they are, rotated to the left, rotated to the right, or with the bytes of the word exchanged
abbrev pub shifted : Shift → ℕ → ℕ
shifted Straight n = n
shifted Left n = n * 2 % 131072 + n / 65536
shifted Right n = n / 2 + n % 2 * 65536
shifted Swap n = n / 65536 * 65536 + n % 256 * 256 + n % 65536 / 256

-- c is the carry and r the word of the result
abbrev pub skips_on : Skip → Bool → ℕ → Bool
skips_on Never c r = false
skips_on Always c r = true
skips_on CarryZero c r = not c
skips_on CarryOne c r = c
skips_on ResultZero c r = r == 0
skips_on ResultNot c r = not (r == 0)
skips_on EitherZero c r = not c || r == 0
skips_on BothNot c r = c && not (r == 0)

abbrev pub function_of : ℕ → Function
function_of n =
    if n == 0 then Com
    else if n == 1 then Neg
    else if n == 2 then Mov
    else if n == 3 then Inc
    else if n == 4 then Adc
    else if n == 5 then Sub
    else if n == 6 then Add
    else And

abbrev pub shift_of : ℕ → Shift
shift_of n = if n == 0 then Straight else if n == 1 then Left else if n == 2 then Right else Swap

abbrev pub base_of : ℕ → CarryBase
base_of n = if n == 0 then Keep else if n == 1 then Zero else if n == 2 then One else Complement

abbrev pub skip_of : ℕ → Skip
skip_of n =
    if n == 0 then Never
    else if n == 1 then Always
    else if n == 2 then CarryZero
    else if n == 3 then CarryOne
    else if n == 4 then ResultZero
    else if n == 5 then ResultNot
    else if n == 6 then EitherZero
    else BothNot

-- a two-accumulator word, by its fields
abbrev pub operated : ℕ → Bool → ℕ → ℕ → Wide
operated w c s d = split (shifted (shift_of (w / 64 % 4)) (computed (function_of (w / 256 % 8)) (of_carry (base_carry (base_of (w / 16 % 4)) c)) s d % 131072))

abbrev pub skipping : ℕ → Wide → Bool
skipping w x = skips_on (skip_of (w % 8)) x.carry x.word
