-- `answers::records::expected` meets its contract. What the local holds are the field's bits; the field fits them. Assumes nothing.
use Prim.Native.Nat.{◌<◌, ◌^◌}
use native.Mathlib.Omega.{arith}
use mathlib.Core.Path.{ap, ◌∙◌}
use borrow.Author.Rules.{sfits_of}
use lib.Signed.{mag}
use mir.Syntax.{w8}
use mir.Val.{hbits}
use mir.ValLaws.{to_z-of_z}
use Rattle.answers.specs.Numbers.{twos_complement}
use Rattle.answers.proofs.records.expected.Goals as goal

pub returns : goal.returns
returns c =
    let z = c.args.signal.expected in
    let fits : mag z < 2 ^ hbits w8 = omega (arith, c.struct_told-1.given) in
    c.two.ensures ∙ ap twos_complement (to_z-of_z w8 z (sfits_of fits))
