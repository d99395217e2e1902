-- `put_rate` meets its contract: the branches are those of `rate`. Assumes nothing.
use native.Mathlib.Omega.{arith}
use Rattle.text.proofs.Laid.{then}
use Rattle.season_report_text.specs.Page.{rate}
use Rattle.season_report_text.proofs.lines.put_rate.Goals as goal

pub returns-then-converted : goal.returns-then-converted
unfolding rate
returns-then-converted c =
    let test = c.if-converted.true in
    let a = c.put_numeral-a.ensures in
    let b = c.put_text.ensures in
    record { puts = rw test (then a.puts b (omega arith)); upper_bound = omega arith }

pub returns : goal.returns
unfolding rate
returns c =
    record { puts = rw c.if-converted.false c.put_numeral.ensures.puts; upper_bound = omega arith }
