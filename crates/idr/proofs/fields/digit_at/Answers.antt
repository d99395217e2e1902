-- `idr::fields::digit_at` meets its contract. Assumes nothing.
use Prim.Native.Nat.{◌+◌, ◌*◌, ◌-◌, ◌%◌}
use native.Mathlib.Omega.{arith}
use mathlib.Core.Path.{◌≡◌}
use Rattle.idr.specs.Fields.{digit}
use Rattle.idr.proofs.fields.digit_at.Goals as goal

pub returns : goal.returns
unfolding digit
returns c =
    let k = c.args.k in
    let e : k % 4 * 4 + 4 + 1 - (k % 4 * 4 + 1) ≡ 4 = omega arith in
    (c.field.ensures.0, rw e at c.field.ensures.1)
