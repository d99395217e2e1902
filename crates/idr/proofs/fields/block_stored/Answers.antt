-- `idr::fields::block_stored` meets its contract. Assumes nothing.
use native.Mathlib.Omega.{arith}
use Rattle.idr.proofs.fields.block_stored.Goals as goal

pub returns : goal.returns
returns c = (rw c.field.ensures.0 at c.long.ensures, omega (arith, c.fits-w 12))
