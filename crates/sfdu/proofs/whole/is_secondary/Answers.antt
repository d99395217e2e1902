-- `sfdu::whole::is_secondary` meets its contract. Assumes nothing.
use native.Mathlib.Omega.{arith}
use Rattle.sfdu.proofs.Placed.{placed}
use Rattle.sfdu.proofs.whole.is_secondary.Goals as goal

pub is_label-requires : goal.is_label-requires
is_label-requires c =
    let k = placed c.args.kind in
    (omega arith, omega (arith, c.secondary_type.ensures), omega (arith, c.secondary_length.ensures))

pub returns : goal.returns
returns c =
    rw (c.secondary_type.ensures, c.secondary_length.ensures) at c.is_label.ensures
