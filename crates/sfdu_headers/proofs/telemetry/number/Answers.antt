-- `sfdu_headers::telemetry::number` meets its contract. Assumes nothing.
use Rattle.sfdu_headers.specs.Fields.{record_number}
use Rattle.sfdu_headers.proofs.telemetry.number.Goals as goal

pub returns : goal.returns
unfolding record_number
returns c = c.read_u32.ensures
