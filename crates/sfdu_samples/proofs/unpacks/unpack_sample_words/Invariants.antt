-- `sfdu_samples::unpacks::unpack_sample_words` meets its contract. The invariant: the words that are left, unpacked and stored, give the
-- result. Assumes nothing.
use Rattle.std.proofs.Common.{◌≡◌, ◌-◌, ◌*◌, ◌≤◌, length, drop}
use lib.Seq.{sets}
use Rattle.sfdu_samples.specs.Packing.{per_sample_word, unpacked_sample_words}
use Rattle.sfdu_samples.proofs.unpacks.unpack_sample_words.Given as goal

abbrev pub invariant-loop-i : goal.invariant-loop-i
invariant-loop-i l =
    (l.i ≤ l.words) × (l.to ≡ l.i * per_sample_word l.width.bits) × (length l.list ≡ length l.initial.list)
    × (sets l.list l.to (unpacked_sample_words l.width.bits (l.words - l.i) (drop (l.i * 4) l.d)) ≡ sets l.initial.list 0 (unpacked_sample_words l.width.bits l.words l.d))

abbrev pub decreases-loop-i : goal.decreases-loop-i
decreases-loop-i l = l.words - l.i
