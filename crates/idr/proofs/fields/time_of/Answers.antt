-- `idr::fields::time_of` meets its contract. Assumes nothing.
use Rattle.idr.proofs.fields.time_of.Goals as goal

pub returns : goal.returns
returns c =
    rw (
      c.field-2.ensures.0,
      c.field.ensures.0,
      c.two_digits-4.ensures.0,
      c.two_digits-3.ensures.0,
      c.two_digits-2.ensures.0,
      c.two_digits.ensures.0,
      c.digit_at.ensures.0,
    )
