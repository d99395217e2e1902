-- `bench::xor_of` meets its contract. The invariant: the number is that of the numbers from i on. Assumes nothing.
use Prim.Native.Nat.{◌≤◌}
use mathlib.Core.Path.{◌≡◌}
use lib.ListN.{length, drop}
use Rattle.bench.specs.inner.Digest.{xor_of}
use Rattle.bench.proofs.xor_of.Given as goal

abbrev pub invariant-loop-i : goal.invariant-loop-i
invariant-loop-i l = (l.i ≤ 32) × (length l.numbers ≡ 32) × (l.all ≡ xor_of (drop l.i l.numbers))
