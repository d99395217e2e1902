-- `idr::fields::is_tagged` meets its contract. Assumes nothing.
use Rattle.idr.specs.Fields.{tagged}
use Rattle.idr.proofs.fields.is_tagged.Goals as goal

pub returns : goal.returns
unfolding tagged
returns c = rw c.field.ensures.0
