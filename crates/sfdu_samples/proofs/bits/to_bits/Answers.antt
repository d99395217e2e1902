-- `sfdu_samples::bits::to_bits` meets its contract. Assumes nothing.
use Rattle.std.proofs.Common.{◌≡◌, ℤ, pos, negsuc, refl, ◌∙◌, w32, of_z}
use mir.ValLaws.{to_z-of_z}
use Rattle.sfdu_samples.specs.Bits.{bits_of}
use Rattle.sfdu_samples.proofs.bits.to_bits.Goals as goal

same : (z : ℤ) → of_z w32 z ≡ bits_of z
unfolding bits_of
same (pos n) = refl
same (negsuc n) = refl

pub returns : goal.returns
returns c = c.cast_unsigned.ensures ∙ rw (to_z-of_z w32 c.args.z c.ranges.z) (same c.args.z)
