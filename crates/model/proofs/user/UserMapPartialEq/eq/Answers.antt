use Rattle.std.proofs.Common.{rules}
use Rattle.std.proofs.lemmas.Bool.Decides.{Decides-at}
use Rattle.model.proofs.Equality.{map_decides}
use Rattle.model.proofs.user.UserMapPartialEq.eq.Goals as goal

pub returns-else-eq-clause-same : goal.returns-else-eq-clause-same
returns-else-eq-clause-same c =
    Decides-at c.eq.result _ (search rules) (map_decides c.args.self.now c.args.other.now)
