-- `idr_list_text::lines::put_origin` meets its contract: five words, each put behind the one before. Assumes nothing.
use native.Mathlib.Omega.{arith}
use Rattle.text.proofs.Laid.{then}
use Rattle.idr_list_text.specs.Text.{origin_text}
use Rattle.idr_list_text.proofs.lines.put_origin.Goals as goal

pub returns : goal.returns
unfolding origin_text
returns c =
    let a = c.put_numeral-a.ensures in
    let b = c.put_numeral-b.ensures in
    let d = c.put_numeral-c.ensures in
    let e = c.put_numeral-d.ensures in
    let f = c.put_numeral.ensures in
    let ab = then a.puts b.puts (omega arith) in
    let abd = then ab d.puts (omega arith) in
    let abde = then abd e.puts (omega arith) in
    record { puts = then abde f.puts (omega arith); upper_bound = omega arith }
