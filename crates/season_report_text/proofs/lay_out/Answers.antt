-- `lay_out` meets its contract: heading, lines, total and gap, each put behind the one before. Assumes nothing.
use native.Mathlib.Omega.{arith}
use Rattle.text.proofs.Laid.{then}
use Rattle.season_report_text.specs.Page.{heading, page}
use Rattle.season_report_text.proofs.lay_out.Goals as goal

pub put_heading-start-requires : goal.put_heading-start-requires
unfolding heading
put_heading-start-requires c = omega arith

pub put_lines-laid-requires : goal.put_lines-laid-requires
unfolding heading
put_lines-laid-requires c =
    record { most_sheets_in_bounds = omega arith; named = (c.requires.named, omega (arith, c.requires.whole)) }

pub put_total-end-requires : goal.put_total-end-requires
unfolding heading
put_total-end-requires c = omega arith

pub put_gap-requires : goal.put_gap-requires
unfolding heading
put_gap-requires c =
    (omega arith, c.requires.named)

pub returns : goal.returns
unfolding page heading
returns c =
    let a = c.put_heading-start.ensures in
    let b = c.put_lines-laid.ensures in
    let d = c.put_total-end.ensures in
    let e = c.put_gap.ensures in
    let ab = then a b.puts (omega arith) in
    let total = rw b.rows_are at d.puts in
    let abd = then ab total (omega arith) in
    record { puts = then abd e.puts (omega arith); upper_bound = omega arith }
