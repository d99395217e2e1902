-- `telemetry::has_band` meets its contract. Assumes nothing.
use mathlib.Core.Path.{refl}
use Rattle.sfdu_headers.proofs.telemetry.has_band.Goals as goal

pub returns : goal.returns
returns c = refl
