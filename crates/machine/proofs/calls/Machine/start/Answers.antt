use Rattle.std.proofs.Common.{refl}
use Rattle.model.specs.Machine.{Deed, Call}
use Rattle.model.proofs.Pasts.{made}
use Rattle.machine.proofs.Answered.{user_did}
use Rattle.machine.proofs.calls.Machine.start.Goals as goal

pub returns-in-Ok : goal.returns-in-Ok
returns-in-Ok g c =
    let who = c.args.permit.who in
    made _ _ _ _ (user_did c.args.self.now.users _ _ (Call.start who c.args.registers) who (Deed.start c.args.registers) _ _ _ refl c.of_mut.ensures.value (c.in-Ok.ensures who _))

pub returns-in-Err : goal.returns-in-Err
returns-in-Err g c =
    let who = c.args.permit.who in
    made _ _ _ _ (user_did c.args.self.now.users _ _ (Call.start who c.args.registers) who (Deed.start c.args.registers) _ _ _ refl c.of_mut.ensures.value (c.in-Err.ensures who _))
