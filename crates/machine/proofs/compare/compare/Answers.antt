use Rattle.model.proofs.Isolation.{agreement}
use Rattle.model.proofs.Order.{order}
use Rattle.model.proofs.Locality.{locality, frame}
use Rattle.machine.specs.Machine.{modelled}
use Rattle.machine.proofs.Differences.{none_if_alike}
use Rattle.machine.proofs.compare.compare.Goals as goal

pub returns : goal.returns
returns g c =
    let found = c.first_difference.ensures in
    record {
      answer = found.answer;
      left = found.left;
      right = found.right;
      alike =
          none_if_alike c.first_difference.result c.args.who c.args.blocks.now
          (modelled g.M.Memory.cells c.args.left.now) (modelled g.N.Memory.cells c.args.right.now) found.answer;
      agreement = agreement _ _;
      order = order;
      locality = locality;
      frame = frame;
    }
