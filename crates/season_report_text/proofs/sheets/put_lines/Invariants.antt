-- `put_lines` meets its contract. The invariant: the lines of the first i sheets are put, and their rows added up. Assumes nothing.
use Prim.Native.Nat.{◌-◌, ◌≤◌}
use mathlib.Core.Path.{◌≡◌}
use lib.ListN.{length}
use Rattle.season_report_text.proofs.Slots.{LinesTo}
use Rattle.season_report_text.proofs.sheets.put_lines.Given as goal

abbrev pub invariant-loop-i : goal.invariant-loop-i
invariant-loop-i l =
    (l.i ≤ l.files.count) × (length l.out ≡ length l.initial.out) × LinesTo l.initial.out l.out l.at l.names l.sheets l.files l.report l.end l.rows l.i

abbrev pub decreases-loop-i : goal.decreases-loop-i
decreases-loop-i l = l.files.count - l.i
