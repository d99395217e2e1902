-- `sfdu::whole::is_data` meets its contract. Assumes nothing.
use native.Mathlib.Omega.{arith}
use lib.Dec.{lit≤}
use Rattle.sfdu.proofs.Placed.{placed}
use Rattle.sfdu.proofs.whole.is_data.Goals as goal

pub is_label-requires : goal.is_label-requires
is_label-requires c =
    let p = placed c.args.kind in
    (omega (arith, c.data_at.ensures, c.requires.1, c.requires.3), lit≤ tt, omega (arith, c.data_value_at.ensures, c.requires.2))

pub returns : goal.returns
returns c =
    rw (c.data_at.ensures, c.data_value_at.ensures, c.requires.0) at c.is_label.ensures
