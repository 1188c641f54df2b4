-- What a call answers, as the rules have it.
use Rattle.std.specs.Prelude.{◌≡◌, ℕ, Bool, true, Some, None, Option, Ok, Err, Result}
use Rattle.model.specs.declared.denial.Denial.{Denial}
use Rattle.model.specs.declared.steps.Ran.{Ran}
use Rattle.model.specs.declared.user.Kind.TheVariants.{Held, Ready}
use Rattle.model.specs.declared.user.Page.{Page}
use Rattle.model.specs.declared.user.Who.{Who}
use Rattle.model.specs.Machine.{Answer, denied, refused, granted, got, permit, ran, kind_after, Sense, of, Deed, State, carried}
use Rattle.machine.specs.declared.map_word.MapWord.{MapWord}
use Rattle.machine.specs.declared.setting.Setting.{Setting}
use Rattle.machine.specs.declared.setting.Setting.TheVariants.{Entry, Switches}

abbrev pub answered : Result (Unit {0}) Denial → Answer
answered (Ok v) = granted
answered (Err e) = denied e

abbrev pub read : Result ℕ Denial → Answer
read (Ok w) = got w
read (Err e) = denied e

-- a page as a block word has it: no block is block 127 with the protect bit
abbrev pub protected_in : Option Page → Bool
protected_in None = true
protected_in (Some p) = p.protected

abbrev pub block_in : Option Page → ℕ
block_in None = 127
block_in (Some p) = p.block

-- what a map word sets
abbrev pub set_by : Who → Setting → Sense
set_by who (Entry e) = of who (Deed.block e.logical (protected_in e.page) (block_in e.page))
set_by who (Switches s) = of who (Deed.status s)

abbrev pub meant : MapWord → Sense
meant x = set_by x.who x.setting

-- a map word, read: what it sets; or a denial, which it then meets in any state
abbrev pub ReadsMapWord : Result MapWord Denial → Sense → Type 0
ReadsMapWord (Ok x) m = meant x ≡ m
ReadsMapWord (Err e) m = (s : State) → carried s m ≡ (denied e, s)

-- a user's start and run
abbrev pub after_start : Who → Result (Unit {0}) Denial → Answer
after_start who (Ok v) = permit who Ready
after_start who (Err e) = refused e who Held

abbrev pub after_run : Who → Result Ran Denial → Answer
after_run who (Ok x) = ran x.steps x.stop who (kind_after x.stop)
after_run who (Err e) = refused e who Ready
