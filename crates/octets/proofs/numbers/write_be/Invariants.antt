-- `octets::numbers::write_be` meets its contract. The invariant: writing the first i bytes of `left` gives the result. Assumes nothing.
use Prim.Native.Nat.{◌≤◌}
use lib.ListN.{length}
use Rattle.octets.specs.Octets.{put, bytes_of}
use mathlib.Core.Path.{◌≡◌}
use Rattle.octets.proofs.numbers.write_be.Given as goal

abbrev pub invariant-loop-i : goal.invariant-loop-i
invariant-loop-i l = (l.i ≤ l.n) × (put l.s l.a (bytes_of l.i l.left) ≡ put l.initial.s l.a (bytes_of l.n l.v)) × (length l.s ≡ length l.initial.s)
