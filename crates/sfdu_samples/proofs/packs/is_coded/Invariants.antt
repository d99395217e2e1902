-- `sfdu_samples::packs::is_coded` meets its contract. The invariant: the flag says whether the numbers passed have codes.
-- Assumes nothing.
use Rattle.std.proofs.Common.{◌≡◌, get_or, pos}
use Rattle.octets.specs.Octets.{all}
use Rattle.sfdu_samples.specs.Packing.{has_code}
use Rattle.sfdu_samples.proofs.packs.is_coded.Given as goal

abbrev pub invariant-loop-z : goal.invariant-loop-z
invariant-loop-z l = l.every ≡ all l.z-index (λ k. has_code l.width.bits (get_or l.samples k (pos 0)))
