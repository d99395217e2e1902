-- `sfdu_headers::bands::is_rsr_band` meets its contract. Assumes nothing.
use mathlib.Core.Path.{refl}
use Rattle.sfdu_headers.specs.Ranges.{is_rsr_band}
use Rattle.sfdu_headers.proofs.bands.is_rsr_band.Goals as goal

pub returns : goal.returns
unfolding is_rsr_band
returns c = refl
