-- `sfdu_samples::unpacks::unpack_sample_word` meets its contract. The invariant: the pairs that are left, stored, give
-- the result. Assumes nothing.
use Rattle.std.proofs.Common.{◌≡◌, ◌+◌, ◌-◌, ◌*◌, ◌/◌, ◌%◌, ◌^◌, ◌≤◌, length}
use lib.Seq.{sets}
use Rattle.sfdu_samples.specs.Packing.{per_half, half_sample_word, pairs_of, samples_of}
use Rattle.sfdu_samples.proofs.unpacks.unpack_sample_word.Given as goal

abbrev pub invariant-loop-k : goal.invariant-loop-k
invariant-loop-k l =
    let w = l.width.bits in
    let left = per_half w - l.k in
    let done = 2 ^ (w * (per_half w - left)) in
    (l.k ≤ per_half w) × (l.up ≡ 16 + w * left) × (length l.list ≡ length l.initial.list)
    × (sets l.list (l.at + 2 * l.k) (pairs_of w left (l.word % half_sample_word / done) (l.word / half_sample_word / done))
    ≡ sets l.initial.list l.at (samples_of w l.word))
