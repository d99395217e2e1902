-- `idr::rules::is_clock` meets its contract. Assumes nothing.
use mathlib.Core.Path.{refl}
use Rattle.idr.specs.Rules.{is_clock}
use Rattle.idr.proofs.rules.is_clock.Goals as goal

pub returns : goal.returns
unfolding is_clock
returns c = refl
