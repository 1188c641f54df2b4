-- The machine of the code, as the machine of the rules.
use Rattle.std.specs.Prelude.{◌≡◌, Ok, Err, Result}
use Rattle.memory.specs.Cells.{Row}
use Rattle.model.specs.declared.user.Kind.{Kind}
use Rattle.model.specs.declared.user.Kind.TheVariants as kind
use Rattle.model.specs.declared.user.Who.{Who}
use Rattle.model.specs.declared.user.Who.TheVariants.{A, B}
use Rattle.model.specs.Machine.{State, Call, Answer, refused, shown, permit, ran}
use Rattle.model.specs.Laws.{Happens}
use Rattle.machine.specs.declared.calls.Ended.{Ended}
use Rattle.machine.specs.declared.calls.Machine.{Machine}
use Rattle.machine.specs.declared.calls.Shown.{Shown}
use Rattle.machine.specs.declared.permit.Denied.{Denied}
use Rattle.machine.specs.declared.permit.Held.{Held}
use Rattle.machine.specs.declared.permit.Permit.{Permit}
use Rattle.machine.specs.declared.permit.Ready.{Ready}

-- its state: the cells that its memory means, and the records of its users
abbrev pub modelled : {M : Type 0} → (M → Row) → Machine M → State
modelled cells m = record { cells = cells m.memory; a = m.users.a; b = m.users.b }

-- a call of the machine's, from m to n
abbrev pub Makes : {M : Type 0} → (M → Row) → Machine M → Call → Answer → Machine M → Type 0
Makes cells m k x n = Happens (modelled cells m) k x (modelled cells n)

abbrev pub seen : Shown → Answer
seen s = shown s.registers s.kind s.latest

-- a permit is its user and kind
abbrev pub who_of : Permit → Who
who_of (Permit.Held p) = p.who
who_of (Permit.Ready p) = p.who

abbrev pub kind_of : Permit → Kind
kind_of (Permit.Held p) = kind.Held
kind_of (Permit.Ready p) = kind.Ready

-- a permit of that user's, of the kind that the machine's record has
abbrev pub Fits : {M : Type 0} → Who → Machine M → Permit → Type 0
Fits A m p = (who_of p ≡ A) × (kind_of p ≡ m.users.a.kind)
Fits B m p = (who_of p ≡ B) × (kind_of p ≡ m.users.b.kind)

-- a start and a run on a permit, with the permit that is given or comes back
abbrev pub begun : Result Ready (Denied Held) → Answer
begun (Ok p) = permit p.who kind.Ready
begun (Err e) = refused e.reason e.permit.who kind.Held

abbrev pub ran_on : Result Ended (Denied Ready) → Answer
ran_on (Ok y) = ran y.steps y.stop (who_of y.permit) (kind_of y.permit)
ran_on (Err e) = refused e.reason e.permit.who kind.Ready
