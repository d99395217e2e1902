-- `idr::words::bits_of` meets its contract. A shift is a division, and the mask a remainder, by a power of two. Assumes nothing.
use Prim.Native.Nat.{◌+◌, ◌-◌, ◌≤◌}
use native.Mathlib.Omega.{arith}
use native.Mathlib.Nat.{mod-lt, lt_of_lt_of_le}
use mathlib.Core.Path.{refl}
use lib.Pow.{pow_pos, pow_mono}
use Rattle.idr.specs.Words.{bits}
use Rattle.idr.proofs.Bits.{one_shifted}
use Rattle.idr.proofs.words.bits_of.Goals as goal

pub nonzero_rem-result : goal.nonzero_rem-result
nonzero_rem-result c = rw (one_shifted (c.args.last + 1 - c.args.first) (omega arith)) (pow_pos (c.args.last + 1 - c.args.first))

pub overflow_cast-result-4 : goal.overflow_cast-result-4
overflow_cast-result-4 c =
    let small : c.args.last + 1 - c.args.first ≤ 16 = omega arith in
    let width = c.args.last + 1 - c.args.first in
    rw (one_shifted width small) (record { fits = lt_of_lt_of_le (mod-lt _ (pow_pos width)) (pow_mono small) })

pub returns : goal.returns
unfolding bits
returns c = rw (one_shifted (c.args.last + 1 - c.args.first) (omega arith)) (refl, mod-lt _ (pow_pos (c.args.last + 1 - c.args.first)))
