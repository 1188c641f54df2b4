use Rattle.std.proofs.Common.{◌≡◌, sym, refl, ap, ◌∙◌, rules}
use Rattle.model.specs.Machine.{map, Deed, Answer, State, denied}
use Rattle.model.proofs.Pasts.{made}
use Rattle.machine.specs.Calls.{answered, protected_in, block_in}
use Rattle.machine.specs.Machine.{modelled}
use Rattle.machine.proofs.Answered.{user_did}
use Rattle.machine.proofs.calls.Machine.map.Goals as goal

pub returns-in_err-who : goal.returns-in_err-who
returns-in_err-who g c =
    let e : answered c.from_residual.result ≡ denied c.in_err-who.field-0.0 = search rules in
    let d = c.in_err-who.ensures (modelled g.M.Memory.cells c.args.self.now) in
    made _ _ _ _ (record { answer = e ∙ sym (ap (λ (p : Answer × State). p.0) d); after = sym (ap (λ (p : Answer × State). p.1) d) })

pub returns-in-Entry : goal.returns-in-Entry
returns-in-Entry g c =
    let entry = c.in-Entry.entry in
    made _ _ _ _
    (user_did c.args.self.now.users _ _ (map c.args.word) c.in_ok-who.field-0.who (Deed.block entry.logical (protected_in entry.page) (block_in entry.page)) _ _ _
    (search rules) c.of_mut-user.ensures.value c.assign.ensures)

pub returns-in-Switches : goal.returns-in-Switches
returns-in-Switches g c =
    made _ _ _ _
    (user_did c.args.self.now.users _ _ (map c.args.word) c.in_ok-who.field-0.who (Deed.status c.in-Switches.switches) _ _ _
    (search rules) c.of_mut-user.ensures.value
    (record { answer = refl; user = refl; cells = refl }))
