-- `put_total` meets its contract: the numbers behind the word. Assumes nothing.
use native.Mathlib.Omega.{arith}
use Rattle.text.proofs.Laid.{then}
use Rattle.season_report_text.specs.Page.{total_line}
use Rattle.season_report_text.proofs.lines.put_total.Goals as goal

pub returns : goal.returns
unfolding total_line
returns c =
    let a = c.put_text-a.ensures in
    let b = c.put_numbers.ensures in
    record { puts = then a b.puts (omega arith); upper_bound = omega arith }
