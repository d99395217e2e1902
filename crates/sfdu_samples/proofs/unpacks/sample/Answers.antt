-- `sfdu_samples::unpacks::sample` meets its contract. Assumes nothing.
use Rattle.std.proofs.Common.{◌≡◌, ℕ, ◌-◌, ◌*◌, ◌/◌, ◌%◌, ◌^◌, ◌<◌, pos, ◌+ℤ◌, ◌*ℤ◌, refl, ap, ◌∙◌, mod-lt, lit<, w32}
use mir.ValLaws.{to_z-of_z}
use Rattle.sfdu_samples.specs.Packing.{twos, value_of}
use Rattle.sfdu_samples.proofs.Values.{codes-some}
use Rattle.sfdu_samples.proofs.Flipped.{Flip, flip, picked}
use Rattle.sfdu_samples.proofs.unpacks.sample.Goals as goal
use Rattle.sfdu_samples.proofs.unpacks.sample.Goals.{Start}

-- The code, shifted up and down.
abbrev moved : Start → ℕ
moved c = c.args.word * 2 ^ c.args.up % 4294967296 / 2 ^ (32 - c.args.width.bits)

moved-is : (c : Start) → moved c ≡ c.args.word / 2 ^ (32 - c.args.width.bits - c.args.up) % 2 ^ c.args.width.bits
moved-is c = picked c.args.word c.args.up c.args.width.bits c.requires

moved-small : (c : Start) → moved c < 2 ^ c.args.width.bits
moved-small c = rw (moved-is c) (mod-lt _ (codes-some c.args.width.bits))

flipped : (c : Start) → Flip c.args.width.bits (moved c)
flipped c = flip c.args.width.bits (moved c) c.args.width.fills (moved-small c)

value : (w code : ℕ) → pos 2 *ℤ twos w code +ℤ pos 1 ≡ value_of w code
unfolding value_of
value w code = refl

pub signed-requires : goal.signed-requires
signed-requires c = moved-small (goal.at.signed-requires c).Start

pub overflow_mul-result : goal.overflow_mul-result
overflow_mul-result c =
    let f = flipped (goal.at.overflow_mul-result c).Start in
    rw (c.signed.ensures, to_z-of_z w32 _ f.fits) f.twice

pub overflow_add-result : goal.overflow_add-result
overflow_add-result c =
    let f = flipped (goal.at.overflow_add-result c).Start in
    rw (c.signed.ensures, to_z-of_z w32 _ f.fits, to_z-of_z w32 _ f.twice) (f.value _ (lit< tt))

pub returns : goal.returns
returns c =
    let f = flipped (goal.at.returns c).Start in
    let w = c.args.width.bits in
    rw (c.signed.ensures, to_z-of_z w32 _ f.fits, to_z-of_z w32 _ f.twice)
    (to_z-of_z w32 _ (f.value _ (lit< tt)) ∙ value w (moved (goal.at.returns c).Start) ∙ ap (value_of w) (moved-is (goal.at.returns c).Start))
