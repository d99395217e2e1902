-- `put_counts` meets its contract: a space and three words, each put behind the one before. Assumes nothing.
use native.Mathlib.Omega.{arith}
use Rattle.text.proofs.Laid.{then}
use Rattle.season_report_text.specs.Page.{counts}
use Rattle.season_report_text.proofs.lines.put_counts.Goals as goal

pub returns : goal.returns
unfolding counts
returns c =
    let a = c.put_text-start.ensures in
    let b = c.put_numeral-a.ensures in
    let d = c.put_numeral-b.ensures in
    let e = c.put_numeral.ensures in
    let ab = then a b.puts (omega arith) in
    let abd = then ab d.puts (omega arith) in
    record { puts = then abd e.puts (omega arith); upper_bound = omega arith }
