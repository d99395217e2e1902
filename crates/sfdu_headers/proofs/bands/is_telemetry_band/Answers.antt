-- `sfdu_headers::bands::is_telemetry_band` meets its contract. Assumes nothing.
use Rattle.sfdu_headers.specs.Ranges.{is_band}
use Rattle.sfdu_headers.proofs.bands.is_telemetry_band.Goals as goal

pub returns : goal.returns
unfolding is_band
returns c = rw c.is_rsr_band.ensures
