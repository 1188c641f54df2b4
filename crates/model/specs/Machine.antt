-- The machine of the rules: its state, its calls, and what each call answers and does.
use Rattle.std.specs.Prelude.{ℕ, ◌/◌, ◌%◌, Bool, true, false, if◌then◌else◌, not, ◌&&◌, ◌||◌, List, [], ◌∷◌, replicate, Some, None, Ok, Err, Option, Result, ◌==◌, nat_lt, slice_set}
use Rattle.memory.specs.Cells.{word, Row}
use Rattle.memory.specs.Answers as memory
use Rattle.memory.specs.declared.fault.MemoryFault.{MemoryFault}
use Rattle.model.specs.declared.denial.Denial.{Denial}
use Rattle.model.specs.declared.denial.Denial.TheVariants as denial
use Rattle.model.specs.declared.steps.Ran.{Ran}
use Rattle.model.specs.declared.stop.Stop.{Stop}
use Rattle.model.specs.declared.stop.Stop.TheVariants as stop
use Rattle.model.specs.declared.user.Kind.{Kind}
use Rattle.model.specs.declared.user.Kind.TheVariants.{Held, Ready}
use Rattle.model.specs.declared.user.Page.{Page}
use Rattle.model.specs.declared.user.Registers.{Registers}
use Rattle.model.specs.declared.user.Switches.{Switches}
use Rattle.model.specs.declared.user.User.{User}
use Rattle.model.specs.declared.user.UserMap.{UserMap}
use Rattle.model.specs.declared.user.Who.{Who}
use Rattle.model.specs.declared.user.Who.TheVariants.{A, B}
use Rattle.model.specs.Numbers.{from_cause}
use Rattle.model.specs.Run.{runs}

-- ---- what a user's call does to the user and the cells

-- a permit, given or coming back, is its user and kind
pub data Answer : Type 0 where
  denied : Denial → Answer
  refused : Denial → Who → Kind → Answer
  granted : Answer
  got : ℕ → Answer
  permit : Who → Kind → Answer
  ran : ℕ → Stop → Who → Kind → Answer
  shown : Registers → Kind → Option Stop → Answer

-- `unlisted` is a status word that asks for an option that is not there
pub data Deed : Type 0 where
  block : ℕ → Bool → ℕ → Deed
  status : Switches → Deed
  unlisted : Deed
  start : Registers → Deed
  run : ℕ → Deed
  show : Deed

abbrev pub Acted : Type 0
Acted = Answer × User × Row

abbrev pub with_map : User → UserMap → User
with_map u m = record { registers = u.registers; map = m; kind = u.kind; latest = u.latest }

abbrev pub with_entry : User → ℕ → Option Page → User
with_entry u l e = with_map u (record { entries = slice_set u.map.entries l e; switches = u.map.switches })

abbrev pub with_switches : User → Switches → User
with_switches u s = with_map u (record { entries = u.map.entries; switches = s })

abbrev pub readied : User → Registers → User
readied u r = record { registers = r; map = u.map; kind = Ready; latest = u.latest }

-- Ready after stop 10, Held after any other
abbrev pub kind_after : Stop → Kind
kind_after (stop.Spent a) = Ready
kind_after (stop.Call a w) = Held
kind_after (stop.Faulted a w e) = Held

abbrev pub rested : User → Ran → Registers → User
rested u x q = record { registers = q; map = u.map; kind = kind_after x.stop; latest = Some x.stop }

abbrev pub mapped : Row → User → ℕ → Bool → ℕ → Acted
mapped cs u l p b =
    if p && b == 127 then (granted, with_entry u l None, cs)
    else if nat_lt b (cs.size / 1024) then (granted, with_entry u l (Some (record { block = b; protected = p })), cs)
    else (denied denial.Block, u, cs)

abbrev pub started : Kind → Who → Row → User → Registers → Acted
started Held who cs u r = if nat_lt r.pc 32768 then (permit who Ready, readied u r, cs) else (refused denial.Pc who Held, u, cs)
started Ready who cs u r = (refused denial.Permit who Held, u, cs)

abbrev pub run_by : Kind → Who → Row → User → ℕ → Acted
run_by Held who cs u n = (refused denial.Permit who Ready, u, cs)
run_by Ready who cs u n =
    let x = runs n 0 u.map u.registers cs in
    (ran x.0.steps x.0.stop who (kind_after x.0.stop), rested u x.0 x.1, x.2)

abbrev pub act : Who → Row → User → Deed → Acted
act who cs u (block l p b) = mapped cs u l p b
act who cs u (status s) = (granted, with_switches u s, cs)
act who cs u unlisted = (denied denial.BadOption, u, cs)
act who cs u (start r) = started u.kind who cs u r
act who cs u (run n) = run_by u.kind who cs u n
act who cs u show = (shown u.registers u.kind u.latest, u, cs)

-- ---- the calls, and the machine

pub data Call : Type 0 where
  map : ℕ → Call
  put : ℕ → ℕ → Call
  get : ℕ → Call
  start : Who → Registers → Call
  run : Who → ℕ → Call
  show : Who → Call

-- what a call means: a deed of a user's, a write or a read of a cell, or a map word that is nobody's
pub data Sense : Type 0 where
  of : Who → Deed → Sense
  poke : ℕ → ℕ → Sense
  peek : ℕ → Sense
  wordless : Sense

-- the bit of that weight
abbrev pub bit : ℕ → ℕ → Bool
bit w n = w / n % 2 == 1

abbrev pub user_by_bit : Bool → Who
user_by_bit true = B
user_by_bit false = A

-- bits 1-5, 8 and 9-15, bit 0 being the highest of sixteen
abbrev pub block_word : ℕ → Deed
block_word w = block (w / 1024 % 32) (bit w 128) (w % 128)

-- bits 9, 11 and 12 are the switches; bits 10, 13, 14 and 15 have to be 0
abbrev pub status_word : ℕ → Deed
status_word w = if bit w 32 || not (w % 8 == 0) then unlisted else status (record { lef = bit w 64; write = bit w 16; indirect = bit w 8 })

-- a map word: bits 6-7 equal to 2 or 3 make a block word of A or B; bits 6-7 and bit 1 all 0 a status word of the user in bit 2
unfoldable pub sense_of_word : ℕ → Sense
sense_of_word w =
    if bit w 512 then of (user_by_bit (bit w 256)) (block_word w)
    else if bit w 256 || bit w 16384 then wordless
    else of (user_by_bit (bit w 8192)) (status_word w)

abbrev pub sense : Call → Sense
sense (map w) = sense_of_word w
sense (put at w) = poke at w
sense (get at) = peek at
sense (start who r) = of who (start r)
sense (run who n) = of who (run n)
sense (show who) = of who show

pub record State : Type 0 where
  pub cells : Row
  pub a : User
  pub b : User

abbrev pub user_of : Who → State → User
user_of A s = s.a
user_of B s = s.b

abbrev pub lifted : Who → State → Acted → Answer × State
lifted A s x = (x.0, record { cells = x.2; a = x.1; b = s.b })
lifted B s x = (x.0, record { cells = x.2; a = s.a; b = x.1 })

abbrev pub after_read : Result ℕ MemoryFault → Answer
after_read (Ok w) = got w
after_read (Err e) = denied (from_cause e)

abbrev pub after_write : Result (Unit {0}) MemoryFault → Answer
after_write (Ok v) = granted
after_write (Err e) = denied (from_cause e)

abbrev pub carried : State → Sense → Answer × State
carried s (of who d) = lifted who s (act who s.cells (user_of who s) d)
carried s (poke at w) = (after_write (memory.writing s.cells at), record { cells = memory.written s.cells at (word w); a = s.a; b = s.b })
carried s (peek at) = (after_read (memory.reading s.cells at), s)
carried s wordless = (denied denial.BadOption, s)

abbrev pub call : State → Call → Answer × State
call s k = carried s (sense k)

abbrev pub replay : State → List Call → List Answer × State
replay s [] = ([], s)
replay s (k ∷ ks) = let x = call s k in let y = replay x.1 ks in (x.0 ∷ y.0, y.1)

-- ---- a new machine

abbrev pub new_user : User
new_user = record {
  registers = record { ac = replicate 4 0; carry = false; pc = 0 };
  map = record { entries = replicate 32 None; switches = record { lef = false; write = true; indirect = true } };
  kind = Held;
  latest = None;
}

abbrev pub fresh : Row → State
fresh cs = record { cells = cs; a = new_user; b = new_user }
