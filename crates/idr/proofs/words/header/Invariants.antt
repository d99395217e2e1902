-- `idr::words::header` meets its contract. The invariant: the first i words are filled in. Assumes nothing.
use mathlib.Core.Path.{◌≡◌}
use lib.ListN.{length}
use Rattle.octets.proofs.Laws.{putting}
use Rattle.idr.specs.Words.{header_count, header}
use Rattle.idr.proofs.words.header.Given as goal

abbrev pub invariant-loop-i : goal.invariant-loop-i
invariant-loop-i l = (l.word-items ≡ putting l.initial.word-items 0 (header l.s) l.i) × (length l.word-items ≡ header_count)
