-- A step of a user program, by what it asks of the user's mapped memory; and how the map carries that out.
use Rattle.std.specs.Prelude.{ℕ, ◌+◌, ◌*◌, ◌/◌, ◌%◌, Bool, if◌then◌else◌, ◌&&◌, Some, None, Ok, Err, Option, Result, slice_index_or}
use Rattle.memory.specs.Cells.{Row, word}
use Rattle.memory.specs.Answers as memory
use Rattle.model.specs.declared.fault.Fault.{Fault}
use Rattle.model.specs.declared.fault.MapFault.{MapFault}
use Rattle.model.specs.declared.fault.MapFault.TheVariants.{Validity, Protected}
use Rattle.model.specs.declared.user.Page.{Page}
use Rattle.model.specs.declared.user.UserMap.{UserMap}
use Rattle.model.specs.Faults.{Halt, located, from_program, faulted, raised}

infixl 1 ◌>>=◌
-- what a program asks, over logical addresses; it halts by its own faults alone
pub data Access : Type 0 → Type 1 where
  ret : {X : Type 0} → X → Access X
  halt : {X : Type 0} → Halt → Access X
  reading : ℕ → Access ℕ
  writing : ℕ → ℕ → Access (Unit {0})
  ◌>>=◌ : {X Y : Type 0} → Access X → (X → Access Y) → Access Y

-- ---- a load and a store through the map

-- a logical address has 15 bits, the upper five being its block
abbrev pub page_at : UserMap → ℕ → Option Page
page_at m a = slice_index_or m.entries (a / 1024 % 32) None

abbrev pub placed : Page → ℕ → ℕ
placed p a = p.block * 1024 + a % 1024

abbrev pub read_at : Option Page → Row → ℕ → Result ℕ MapFault
read_at None cs a = Err (Validity a)
read_at (Some p) cs a = faulted (located (memory.reading cs (placed p a)) (placed p a) a)

-- `on` is the switch of write protection
abbrev pub write_at : Option Page → Bool → Row → ℕ → Result (Unit {0}) MapFault
write_at None on cs a = Err (Validity a)
write_at (Some p) on cs a = if on && p.protected then Err (Protected a) else faulted (located (memory.writing cs (placed p a)) (placed p a) a)

abbrev pub written_at : Option Page → Bool → Row → ℕ → ℕ → Row
written_at None on cs a w = cs
written_at (Some p) on cs a w = if on && p.protected then cs else memory.written cs (placed p a) (word w)

abbrev pub loaded : UserMap → Row → ℕ → Result ℕ MapFault
loaded m cs a = read_at (page_at m a) cs a

abbrev pub stored : UserMap → Row → ℕ → Result (Unit {0}) MapFault
stored m cs a = write_at (page_at m a) m.switches.write cs a

abbrev pub stored_cells : UserMap → Row → ℕ → ℕ → Row
stored_cells m cs a w = written_at (page_at m a) m.switches.write cs a w

-- ---- what is asked, carried out

abbrev pub Done : Type 0 → Type 0
Done X = Result X Fault × Row

unfoldable pub fetching : UserMap → Row → ℕ → Done ℕ
fetching m cs a = (raised (loaded m cs a), cs)

unfoldable pub putting : UserMap → Row → ℕ → ℕ → Done (Unit {0})
putting m cs a w = (raised (stored m cs a), stored_cells m cs a w)

abbrev pub onward : {X Y : Type 0} → Done X → (X → Row → Done Y) → Done Y
onward (Ok x, cs) k = k x cs
onward (Err e, cs) k = (Err e, cs)

abbrev pub perform : {X : Type 0} → UserMap → Row → Access X → Done X
perform m cs (ret x) = (Ok x, cs)
perform m cs (halt e) = (Err (from_program e), cs)
perform m cs (reading a) = fetching m cs a
perform m cs (writing a w) = putting m cs a w
perform m cs (t >>= f) = onward (perform m cs t) (λ x cs'. perform m cs' (f x))
