-- `sfdu::label::length_in_range` meets its contract. Assumes nothing.
use Prim.Native.Nat.{◌+◌}
use mathlib.Core.Path.{◌≡◌}
use native.Mathlib.Omega.{arith}
use Rattle.sfdu.specs.Nesting.{most_data, most_label_length}
use Rattle.sfdu.proofs.Placed.{placed}
use Rattle.sfdu.proofs.label.length_in_range.Goals as goal

pub overflow_add-most : goal.overflow_add-most
overflow_add-most c = let k = placed c.args.kind in omega arith

pub returns : goal.returns
returns c =
    let k = placed c.args.kind in
    let most : c.least_label_length-least.result + most_data ≡ most_label_length c.args.kind = omega arith in
    rw (most, c.least_label_length-least.ensures)
