-- `idr::fields::is_counted` meets its contract. Assumes nothing.
use Rattle.idr.specs.Fields.{counted}
use Rattle.idr.proofs.fields.is_counted.Goals as goal

pub returns : goal.returns
unfolding counted
returns c = rw c.field.ensures.0
