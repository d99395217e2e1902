-- `sfdu_samples::packs::pack_sample_words` meets its contract. The invariant: the words that are left, packed and stored, give the result.
-- Assumes nothing.
use Rattle.std.proofs.Common.{◌≡◌, ◌-◌, ◌*◌, ◌≤◌, length, drop}
use lib.Seq.{sets}
use Rattle.sfdu_samples.specs.Packing.{per_sample_word, packed_sample_words}
use Rattle.sfdu_samples.proofs.packs.pack_sample_words.Given as goal

abbrev pub invariant-loop-i : goal.invariant-loop-i
invariant-loop-i l =
    (l.i ≤ l.words) × (length l.out ≡ length l.initial.out)
    × (sets l.out (l.i * 4) (packed_sample_words l.width.bits (l.words - l.i) (drop (l.i * per_sample_word l.width.bits) l.samples)) ≡ sets
    l.initial.out 0 (packed_sample_words l.width.bits l.words l.samples))

abbrev pub decreases-loop-i : goal.decreases-loop-i
decreases-loop-i l = l.words - l.i
