-- `idr_write::write_words` meets its contract. The invariant: the first i words are written. Assumes nothing.
use mathlib.Core.Path.{◌≡◌}
use lib.ListN.{length, take}
use Rattle.octets.specs.Octets.{put}
use Rattle.idr_write.specs.Write.{word_bytes}
use Rattle.idr_write.proofs.write_words.Given as goal

abbrev pub invariant-loop-i : goal.invariant-loop-i
invariant-loop-i l = (l.out ≡ put l.initial.out 0 (word_bytes (take l.i l.words))) × (length l.out ≡ length l.initial.out)
