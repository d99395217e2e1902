-- `idr::fields::recorder_of` meets its contract. Assumes nothing.
use Rattle.idr.proofs.fields.recorder_of.Goals as goal

pub returns : goal.returns
returns c =
    rw (
      c.field-6.ensures.0,
      c.field-5.ensures.0,
      c.field-4.ensures.0,
      c.field-3.ensures.0,
      c.field-2.ensures.0,
      c.field.ensures.0,
    )
