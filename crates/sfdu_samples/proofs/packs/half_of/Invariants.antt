-- `sfdu_samples::packs::half_of` meets its contract. The invariant: the half is that of the numbers from the last one taken on.
-- Assumes nothing.
use Rattle.std.proofs.Common.{◌≡◌, ◌+◌, ◌-◌, ◌*◌, ◌^◌, ◌≤◌, drop}
use Rattle.sfdu_samples.specs.Packing.{per_half, half_of}
use Rattle.sfdu_samples.proofs.packs.half_of.Given as goal

abbrev pub invariant-loop-k : goal.invariant-loop-k
invariant-loop-k l =
    (l.base ≡ 2 ^ l.width.bits) × (l.k ≤ per_half l.width.bits) × (l.half ≡ half_of l.width.bits (per_half l.width.bits - l.k) (drop (l.at + 2 * l.k) l.samples))
