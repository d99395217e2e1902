-- `sfdu_headers::telemetry::read_fields` meets its contract. Assumes nothing.
use Rattle.sfdu_headers.proofs.telemetry.read_fields.Goals as goal

pub returns : goal.returns
returns c =
    rw (
      c.spacecraft.ensures,
      c.read_u64.ensures,
      c.number.ensures,
      c.band-uplink.ensures,
      c.read_u16.ensures,
    )
