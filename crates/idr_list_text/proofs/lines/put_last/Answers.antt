-- `idr_list_text::lines::put_last` meets its contract: two words and the reason behind them. Assumes nothing.
use native.Mathlib.Omega.{arith}
use Rattle.text.proofs.Laid.{then}
use Rattle.idr_list_text.specs.Text.{last_line}
use Rattle.idr_list_text.proofs.lines.put_last.Goals as goal

pub returns : goal.returns
unfolding last_line
returns c =
    let a = c.put_numeral-a.ensures in
    let b = c.put_numeral-b.ensures in
    let w = c.words.ensures in
    let d = rw w.value at c.put_text.ensures in
    let ab = rw c.number.ensures at (then a.puts b.puts (omega arith)) in
    record { puts = then ab d (omega (arith, w.upper_bound)); upper_bound = omega (arith, w.upper_bound) }
