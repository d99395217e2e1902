-- `sfdu::whole::has_blocks` meets its contract. Assumes nothing.
use native.Mathlib.Omega.{arith}
use lib.Dec.{lit≤}
use mathlib.Core.Path.{sym}
use Rattle.sfdu.proofs.Placed.{placed}
use Rattle.sfdu.proofs.Wholes.{blocks-test}
use Rattle.sfdu.proofs.whole.has_blocks.Goals as goal

pub is_label-primary-requires : goal.is_label-primary-requires
is_label-primary-requires c =
    let p = placed c.args.kind in
    (omega (arith, c.requires.1, c.requires.3), lit≤ tt, lit≤ tt)

pub returns : goal.returns
returns c =
    rw (
      c.is_aggregation-aggregation.ensures,
      c.is_label-primary.ensures,
      c.is_secondary-secondary.ensures,
      c.is_data-data.ensures,
    ) (sym (blocks-test c.args.kind c.args.s.now))
