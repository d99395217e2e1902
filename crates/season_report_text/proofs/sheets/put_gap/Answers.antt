-- `put_gap` meets its contract: the place behind the words. Assumes nothing.
use native.Mathlib.Omega.{arith}
use Rattle.text.proofs.Laid.{then}
use Rattle.season_report_text.specs.Page.{gap_line}
use Rattle.season_report_text.proofs.sheets.put_gap.Goals as goal

pub returns : goal.returns
unfolding gap_line
returns c =
    let a = c.put_text-a.ensures in
    let b = c.put_place.ensures in
    record { puts = then a b.puts (omega arith); upper_bound = omega arith }
