-- `put_place` meets its contract: the cases are those of `gap_place`. Assumes nothing.
use native.Mathlib.Omega.{arith}
use Rattle.season_report_text.specs.Page.{gap_place}
use Rattle.season_report_text.proofs.sheets.put_place.Goals as goal

pub returns-in-None : goal.returns-in-None
unfolding gap_place
returns-in-None c =
    record { puts = rw c.in-None.is c.put_text.ensures; upper_bound = omega arith }

pub returns-in-Some : goal.returns-in-Some
unfolding gap_place
returns-in-Some c =
    record { puts = rw c.in-Some.is c.put_found.ensures.puts; upper_bound = omega arith }
