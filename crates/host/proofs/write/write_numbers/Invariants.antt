-- `host::write::write_numbers` meets its contract. The invariant: the bytes of the first i numbers are put in. Assumes nothing.
use mathlib.Core.Path.{◌≡◌}
use lib.ListN.{length, take}
use Rattle.octets.specs.Octets.{put}
use Rattle.host.specs.Answer.{answer_bytes}
use Rattle.host.proofs.write.write_numbers.Given as goal

abbrev pub invariant-loop-i : goal.invariant-loop-i
invariant-loop-i l = (l.answer ≡ put l.initial.answer 0 (answer_bytes (take l.i l.numbers))) × (length l.answer ≡ length l.initial.answer)
