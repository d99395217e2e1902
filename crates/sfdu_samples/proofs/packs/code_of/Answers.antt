-- `sfdu_samples::packs::code_of` meets its contract. Assumes nothing.
use Rattle.std.proofs.Common.{arith, w32}
use mir.ValLaws.{to_z-of_z}
use Rattle.sfdu_samples.proofs.Values.{codes-some, raised-code}
use Rattle.sfdu_samples.proofs.packs.code_of.Goals as goal

pub nonzero_rem-result : goal.nonzero_rem-result
nonzero_rem-result c = omega (arith, c.codes.ensures, codes-some c.args.width.bits)

pub returns : goal.returns
returns c =
    let same = to_z-of_z w32 c.args.z c.ranges.z in
    rw (c.codes.ensures, c.raise.ensures, same) (raised-code c.args.width.bits c.args.z c.args.width.fills c.requires)
