-- What a row does: one call of the machine of the rules.
use Rattle.model.specs.declared.user.Who.{Who}
use Rattle.model.specs.Machine.{Answer, State, user_of, map, put, start, run, call}
use Rattle.reading.specs.declared.row.Row.{Row}
use Rattle.reading.specs.declared.row.Row.TheVariants.{Map, Put, Start, Run}
use Rattle.sheets.specs.Lines.{Told, told, starting_at}

-- what came of the call, with the registers of its user after the call
abbrev pub told_after : Who → Answer × State → Told × State
told_after who x = (told x.0 (user_of who x.1).registers, x.1)

-- map words and puts show no registers, so that either user will do
unfoldable pub carried_out : State → Row → Told × State
carried_out s (Map w) = told_after Who.A (call s (map w))
carried_out s (Put at w) = told_after Who.A (call s (put at w))
carried_out s (Start who at) = told_after who (call s (start who (starting_at at)))
carried_out s (Run who n) = told_after who (call s (run who n))

-- of A's and B's, the user's own first; done twice, the order is as before
abbrev pub own_then_other : {X : Type 0} → Who → X → X → X × X
own_then_other Who.A a b = (a, b)
own_then_other Who.B a b = (b, a)
