-- `sfdu_samples::unpacks::signed` meets its contract. Assumes nothing.
use Rattle.std.proofs.Common.{◌≡◌, ◌-◌, ◌/◌, ◌^◌, ◌<◌, arith, w32}
use lib.Bits.{bit_xor}
use mir.ValLaws.{to_z_pos, to_z-of_z}
use Rattle.sfdu_samples.proofs.Values.{doubled}
use Rattle.sfdu_samples.proofs.Flipped.{Flip, flip}
use borrow.Author.Rules.{sfits_of}
use Rattle.sfdu_samples.proofs.unpacks.signed.Goals as goal
use Rattle.sfdu_samples.proofs.unpacks.signed.Goals.{Start, After-codes-half}

halved : (c : Start) → 2 ^ c.args.width.bits / 2 ≡ 2 ^ (c.args.width.bits - 1)
halved c = omega (arith, doubled c.args.width.bits c.args.width.fills.some)

flipped : (c : Start) → Flip c.args.width.bits c.args.code
flipped c = flip c.args.width.bits c.args.code c.args.width.fills c.requires

flipped-small : (c : After-codes-half) → bit_xor c.args.code (2 ^ (c.args.width.bits - 1)) < 2147483648
flipped-small c = omega (arith, (flipped (goal.at.After-codes-half c).Start).small)

half-small : (c : After-codes-half) → 2 ^ (c.args.width.bits - 1) < 2147483648
half-small c = omega (arith, (flipped (goal.at.After-codes-half c).Start).half)

pub overflow_cast-result : goal.overflow_cast-result
overflow_cast-result c = rw (c.codes-half.ensures, halved (goal.at.overflow_cast-result c).Start) (sfits_of (flipped-small (goal.at.overflow_cast-result c).After-codes-half))

pub overflow_cast-result-2 : goal.overflow_cast-result-2
overflow_cast-result-2 c = rw (c.codes-half.ensures, halved (goal.at.overflow_cast-result-2 c).Start) (sfits_of (half-small (goal.at.overflow_cast-result-2 c).After-codes-half))

pub overflow_sub-result : goal.overflow_sub-result
overflow_sub-result c =
    let f = flipped (goal.at.overflow_sub-result c).Start in
    rw (
      c.codes-half.ensures,
      halved (goal.at.overflow_sub-result c).Start,
      to_z_pos w32 _ (flipped-small (goal.at.overflow_sub-result c).After-codes-half),
      to_z_pos w32 _ (half-small (goal.at.overflow_sub-result c).After-codes-half),
      f.is,
    ) f.fits

pub returns : goal.returns
returns c =
    let f = flipped (goal.at.returns c).Start in
    rw (
      c.codes-half.ensures,
      halved (goal.at.returns c).Start,
      to_z_pos w32 _ (flipped-small (goal.at.returns c).After-codes-half),
      to_z_pos w32 _ (half-small (goal.at.returns c).After-codes-half),
      f.is,
    ) (to_z-of_z w32 _ f.fits)
