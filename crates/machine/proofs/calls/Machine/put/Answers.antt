use Rattle.std.proofs.Common.{rules}
use Rattle.model.proofs.Pasts.{made}
use Rattle.machine.proofs.calls.Machine.put.Goals as goal

pub returns-in_err-write : goal.returns-in_err-write
returns-in_err-write g c = made _ _ _ _ (record { answer = search rules; after = cc })

pub returns : goal.returns
returns g c = made _ _ _ _ (record { answer = search rules; after = cc })
