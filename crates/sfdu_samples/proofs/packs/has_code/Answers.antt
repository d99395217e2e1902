-- `sfdu_samples::packs::has_code` meets its contract. Assumes nothing.
use Rattle.std.proofs.Common.{arith, w32}
use mir.ValLaws.{to_z-of_z}
use Rattle.sfdu_samples.proofs.Values.{codes-most, raised-has}
use Rattle.sfdu_samples.proofs.packs.has_code.Goals as goal

pub overflow_sub-result : goal.overflow_sub-result
overflow_sub-result c = omega (arith, c.codes-limit.ensures, codes-most c.args.width.bits c.args.width.fills.most)

pub overflow_add-result : goal.overflow_add-result
overflow_add-result c = omega (arith, c.codes-limit.ensures, codes-most c.args.width.bits c.args.width.fills.most)

pub returns : goal.returns
returns c =
    let same = to_z-of_z w32 c.args.z c.ranges.z in
    rw (c.codes-limit.ensures, c.raise-raised.ensures, same) (raised-has c.args.width.bits c.args.z c.args.width.fills)
