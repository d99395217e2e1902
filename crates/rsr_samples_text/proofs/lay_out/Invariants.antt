-- `rsr_samples_text::lay_out` meets its contract: what is laid out so far is the text of the numbers up to i, and each number takes some
-- bytes at most, so that a part with no room left is not empty. Assumes nothing.
use Prim.Native.Nat.{◌+◌, ◌-◌, ◌*◌, ◌≤◌}
use mathlib.Core.Path.{◌≡◌}
use lib.ListN.{length}
use Rattle.text.specs.Text.{Puts}
use Rattle.rsr_samples_text.specs.Text.{part_text}
use Rattle.rsr_samples_text.specs.inner.Room.{most_number}
use Rattle.rsr_samples_text.proofs.lay_out.Given as goal

abbrev pub invariant-loop-i : goal.invariant-loop-i
invariant-loop-i l =
    (l.room + most_number ≡ length l.initial.out) × (length l.out ≡ length l.initial.out) × (l.from ≤ l.i) × (l.i ≤ length l.list) ×
    (l.at ≤ most_number * (l.i - l.from)) × (l.at ≤ length l.initial.out)
    × Puts l.initial.out l.out 0 l.at (part_text l.raw l.list l.from l.i)
