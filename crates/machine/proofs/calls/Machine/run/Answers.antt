use Rattle.std.proofs.Common.{◌≡◌, refl, ◌∙◌}
use Rattle.model.specs.Machine.{Deed, Call, ran, kind_after}
use Rattle.model.proofs.Pasts.{made}
use Rattle.model.proofs.Programs.{lawful}
use Rattle.machine.specs.Machine.{who_of, kind_of}
use Rattle.machine.proofs.Answered.{user_did}
use Rattle.machine.proofs.calls.Machine.run.Goals as goal

pub returns-in-Ok : goal.returns-in-Ok
returns-in-Ok g c =
    let who = c.args.permit.who in
    let h = c.in-Ok.ensures who in
    let stop = c.in-Ok.ran.stop in
    let e : ran c.in-Ok.ran.steps stop (who_of c.permit_of.result) (kind_of c.permit_of.result) ≡ ran c.in-Ok.ran.steps stop who (kind_after stop) = cc in
    record {
      laws = lawful;
      makes =
          made _ _ _ _
          (user_did c.args.self.now.users _ _ (Call.run who c.args.budget) who (Deed.run c.args.budget) _ _ _ refl c.of_mut-user.ensures.value
          (record { answer = e ∙ h.answer; user = h.user; cells = h.cells }));
    }

pub returns-in-Err : goal.returns-in-Err
returns-in-Err g c =
    let who = c.args.permit.who in
    record {
      laws = lawful;
      makes =
          made _ _ _ _
          (user_did c.args.self.now.users _ _ (Call.run who c.args.budget) who (Deed.run c.args.budget) _ _ _ refl c.of_mut-user.ensures.value (c.in-Err.ensures who));
    }
