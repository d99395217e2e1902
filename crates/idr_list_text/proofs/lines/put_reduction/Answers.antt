-- `idr_list_text::lines::put_reduction` meets its contract: three words, each put behind the one before. Assumes nothing.
use native.Mathlib.Omega.{arith}
use Rattle.text.proofs.Laid.{then}
use Rattle.idr_list_text.specs.Text.{reduction_text}
use Rattle.idr_list_text.proofs.lines.put_reduction.Goals as goal

pub returns : goal.returns
unfolding reduction_text
returns c =
    let a = c.put_numeral-a.ensures in
    let b = c.put_numeral-b.ensures in
    let d = c.put_numeral.ensures in
    let ab = then a.puts b.puts (omega arith) in
    record { puts = then ab d.puts (omega arith); upper_bound = omega arith }
