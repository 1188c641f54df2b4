use Rattle.std.proofs.Common.{rules}
use Rattle.model.proofs.Pasts.{made}
use Rattle.machine.proofs.calls.Machine.get.Goals as goal

pub returns-in_err-read : goal.returns-in_err-read
returns-in_err-read g c = made _ _ _ _ (record { answer = search rules; after = cc })

pub returns : goal.returns
returns g c = made _ _ _ _ (record { answer = search rules; after = cc })
