-- `sfdu::whole::is_aggregation` meets its contract. Assumes nothing.
use native.Mathlib.Omega.{arith}
use lib.Dec.{lit≤}
use Rattle.sfdu.proofs.Placed.{placed}
use Rattle.sfdu.proofs.whole.is_aggregation.Goals as goal

pub is_label-requires : goal.is_label-requires
is_label-requires c =
    let k = placed c.args.kind in
    (omega arith, lit≤ tt, omega (arith, c.aggregation_length.ensures))

pub returns : goal.returns
returns c = rw c.aggregation_length.ensures at c.is_label.ensures
