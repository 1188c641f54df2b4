use Rattle.model.proofs.Pasts.{made}
use Rattle.machine.proofs.Answered.{show_did}
use Rattle.machine.proofs.calls.Machine.show.Goals as goal

pub returns : goal.returns
returns g c = made _ _ _ _ (show_did c.args.self.now.users _ c.args.who c.of.result.now _ c.of.ensures c.from.ensures)
