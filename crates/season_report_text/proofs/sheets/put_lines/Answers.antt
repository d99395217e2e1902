-- `put_lines` meets its contract. The invariant: the lines of the first i sheets are put, and their rows added up. Assumes nothing.
use Prim.Native.Nat.{◌≤◌, ◌+◌}
use native.Mathlib.Omega.{arith}
use mathlib.Core.Path.{◌≡◌, refl}
use lib.ListN.{length}
use Rattle.season_report_text.specs.inner.Room.{most_line}
use Rattle.season_report_text.proofs.Slots.{lines_none, lines_more}
use Rattle.season_report_text.proofs.sheets.put_lines.Goals as goal

pub loop-i-init : goal.loop-i-init
loop-i-init c = (omega arith, refl, lines_none _ _ _ _ _ _)

pub loop-i-preserved : goal.loop-i-preserved
loop-i-preserved c =
    let g = c.args in
    let a = c.put_name-named.ensures in
    let b = c.put_numbers-end.ensures in
    let u = c.rows_of-used.ensures in
    let room : c.loop-i.end + most_line ≤ length g.out.now = omega (arith, c.loop-i.invariant.2.short, c.requires.named.0.few) in
    let more = lines_more g.names.now g.sheets.now g.files g.report c.loop-i.invariant.2 a.puts a.upper_bound in
    (omega arith, omega arith, more u.0 u.1 (rw u.0 at b.puts) b.upper_bound (omega (arith, room), omega (arith, room)))

pub returns : goal.returns
returns c =
    let end : c.loop-i.i ≡ c.args.files.count = omega arith in
    let at = rw end at c.loop-i.invariant.2 in
    record { puts = at.puts; rows_are = at.rows_are; short = omega (arith, at.short) }
