-- `season_report::load_all` meets its contract. The invariant: the files before this one are loaded, each into its slot. Assumes nothing.
use Prim.Native.Nat.{◌-◌, ◌≤◌}
use mathlib.Core.Path.{◌≡◌}
use lib.ListN.{length}
use Rattle.ledger_season.specs.Report.{most_sheets}
use Rattle.season_report.proofs.Sheets.{SoFar}
use Rattle.season_report.proofs.load_all.Given as goal

abbrev pub invariant-loop-i : goal.invariant-loop-i
invariant-loop-i l =
    (l.i ≤ most_sheets) × (length l.rooms ≡ length l.initial.rooms) × (length l.sheets ≡ length l.initial.sheets)
    × SoFar l.count l.names l.rooms l.sheets l.got l.files l.i

abbrev pub decreases-loop-i : goal.decreases-loop-i
decreases-loop-i l = most_sheets - l.i
