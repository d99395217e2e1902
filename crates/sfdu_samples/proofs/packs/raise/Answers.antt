-- `sfdu_samples::packs::raise` meets its contract: by the number's sign. Assumes nothing.
use Rattle.std.proofs.Common.{◌≡◌, suc, ◌<◌, ℤ, pos, negsuc, ◌+ℤ◌, refl, arith, w32, w64, SFits, to_z, of_z, le-ltb}
use borrow.Author.Rules.{sfits_of}
use mir.ValLaws.{to_z_pos, to_z-of_z}
use Rattle.sfdu_samples.specs.inner.Unpacking.{raised}
use Rattle.sfdu_samples.proofs.packs.raise.Goals as goal

wide : (z : ℤ) → SFits w32 z → SFits w64 z
wide z f = sfits_of (omega (arith, f.sfits))

sum : (z : ℤ) → SFits w32 z → z +ℤ pos 2147483648 ≡ pos (raised z)
unfolding raised
sum (pos n) f = refl
sum (negsuc n) f = let l = f.sfits in rw (le-ltb 2147483648 (suc n) (omega arith))

small : (z : ℤ) → SFits w32 z → raised z < 4294967296
unfolding raised
small (pos n) f = omega (arith, f.sfits)
small (negsuc n) f = omega arith

-- What the code adds up to, and what it then holds.
summed : (z : ℤ) → SFits w32 z → to_z w64 (of_z w64 (to_z w32 (of_z w32 z))) +ℤ pos 2147483648 ≡ pos (raised z)
summed z f = rw (to_z-of_z w32 z f, to_z-of_z w64 z (wide z f)) (sum z f)

holds : (z : ℤ) → SFits w32 z → to_z w64 (of_z w64 (to_z w64 (of_z w64 (to_z w32 (of_z w32 z))) +ℤ pos 2147483648)) ≡ pos (raised z)
holds z f = rw (summed z f) (to_z_pos w64 (raised z) (omega (arith, small z f)))

pub overflow_cast-result : goal.overflow_cast-result
overflow_cast-result c = rw (to_z-of_z w32 c.args.z c.ranges.z) (wide _ c.ranges.z)

pub overflow_add-result : goal.overflow_add-result
overflow_add-result c = rw (summed _ c.ranges.z) (sfits_of (omega (arith, small _ c.ranges.z)))

pub overflow_cast-result-3 : goal.overflow_cast-result-3
overflow_cast-result-3 c = rw (holds _ c.ranges.z) (tt, omega (arith, small _ c.ranges.z))

pub returns : goal.returns
returns c = rw (holds _ c.ranges.z)
