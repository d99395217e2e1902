-- `sfdu_headers::rsr::read_source` meets its contract. Assumes nothing.
use Rattle.sfdu_headers.proofs.rsr.read_source.Goals as goal

pub returns : goal.returns
returns c =
    rw (
      c.read_u16.ensures,
      c.number.ensures,
      c.read_u16-2.ensures,
    )
