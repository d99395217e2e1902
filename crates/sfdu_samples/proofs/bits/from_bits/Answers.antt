-- `sfdu_samples::bits::from_bits` meets its contract. Assumes nothing.
use Rattle.std.proofs.Common.{◌≡◌, ℕ, ◌<◌, Bool, true, false, refl, w32, to_z, nat_lt}
use Rattle.std.proofs.lemmas.Int.{of_z-to_z}
use Rattle.sfdu_samples.specs.Packing.{twos}
use Rattle.sfdu_samples.proofs.Values.{minus}
use Rattle.sfdu_samples.proofs.bits.from_bits.Goals as goal

read : (v : ℕ) → v < 4294967296 → to_z w32 v ≡ twos 32 v
unfolding twos
read v h = by (nat_lt v 2147483648) refl
  where
    by : (b : Bool) → nat_lt v 2147483648 ≡ b → to_z w32 v ≡ twos 32 v
    by true e = rw e
    by false e = rw (e, minus v 4294967296 h)

pub returns : goal.returns
returns c =
    let v = c.args.v in
    rw (c.cast_signed.ensures, of_z-to_z w32 v c.ranges.v.fits) (read v c.ranges.v.fits)
