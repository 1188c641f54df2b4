use mathlib.Core.Path.{refl}
use Rattle.gauge.proofs.Shown.{points}
use Rattle.gauge.proofs.shown_points.Goals as goal

pub returns : goal.returns
returns c = record { count = refl; points = points }
