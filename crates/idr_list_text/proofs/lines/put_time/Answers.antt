-- `idr_list_text::lines::put_time` meets its contract: the day, and the clock behind it. Assumes nothing.
use native.Mathlib.Omega.{arith}
use Rattle.text.proofs.Laid.{then}
use Rattle.idr_list_text.specs.Text.{clock, time_text}
use Rattle.idr_list_text.proofs.lines.put_time.Goals as goal

pub returns : goal.returns
unfolding time_text clock
returns c =
    let a = c.put_numeral-a.ensures in
    let t = rw c.clock_of-time.ensures at c.put_text.ensures in
    record { puts = then a.puts t (omega (arith, t.end)); upper_bound = omega (arith, t.end) }
