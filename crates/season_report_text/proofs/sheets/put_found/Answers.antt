-- `put_found` meets its contract: the name, the row and the number, each put behind the one before. Assumes nothing.
use native.Mathlib.Omega.{arith}
use Rattle.text.proofs.Laid.{then}
use Rattle.season_report_text.specs.Page.{found}
use Rattle.season_report_text.proofs.sheets.put_found.Goals as goal

pub returns : goal.returns
unfolding found
returns c =
    let a = c.put_name-a.ensures in
    let b = c.put_text-b.ensures in
    let d = c.put_numeral-c.ensures in
    let e = c.put_text-d.ensures in
    let f = c.put_numeral.ensures in
    let ab = then a.puts b (omega arith) in
    let abd = then ab d.puts (omega arith) in
    let abde = then abd e (omega arith) in
    record { puts = then abde f.puts (omega arith); upper_bound = omega arith }
