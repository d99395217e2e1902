-- `put_numbers` meets its contract: the rate behind the counts. Assumes nothing.
use native.Mathlib.Omega.{arith}
use Rattle.text.proofs.Laid.{then}
use Rattle.season_report_text.specs.Page.{numbers}
use Rattle.season_report_text.proofs.lines.put_numbers.Goals as goal

pub returns : goal.returns
unfolding numbers
returns c =
    let a = c.put_counts-a.ensures in
    let b = c.put_rate.ensures in
    record { puts = then a.puts b.puts (omega arith); upper_bound = omega arith }
