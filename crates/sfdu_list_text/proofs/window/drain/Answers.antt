-- `sfdu_list_text::window::drain` meets its contract. The loop's invariant is `Round`: the text so far is that of the window before `at`, however
-- the stream goes on. The measure is what is left of the window. Assumes nothing.
use borrow.Author.Rules.{rules}
use native.Mathlib.Omega.{arith}
use mathlib.Core.Path.{sym, ap, ◌∙◌}
use Rattle.sfdu_list_text.specs.inner.Window.{seen, number_told, beside_told}
use Rattle.sfdu_list_text.proofs.Draining.{
  part_length,
  RecordThere,
  record-there,
  stop-there,
  round-begins,
  line-room,
  last-room,
  round-goes,
  round-waits,
  round-stops,
}
use Rattle.sfdu_list_text.proofs.window.drain.Goals as goal
use Rattle.sfdu_list_text.proofs.window.drain.Goals.{In-Record}

pub loop-kind-init : goal.loop-kind-init
loop-kind-init c = let h = c.requires in round-begins _ _ _ _ _ h.0 h.1 h.2

pub overflow_add-here : goal.overflow_add-here
overflow_add-here c = let k = c.loop-kind.invariant in omega (arith, k.top, k.fits, k.under.within)

pub judge-found-requires : goal.judge-found-requires
judge-found-requires c =
    let l = part_length c.args.w.now c.loop-kind.at in
    (omega (arith, l, c.loop-kind.invariant.fits), omega (arith, l, c.loop-kind.invariant.fits, c.loop-kind.invariant.top, c.loop-kind.invariant.under.within))

-- Where a record stands at the place: what is known of it.
record-known : (c : In-Record) →
    RecordThere c.args.w.now c.loop-kind.at c.in-Record.kind c.in-Record.size c.in-Record.number
record-known c =
    record-there _ _ _ _ c.in-Record.kind c.in-Record.size c.in-Record.number (sym (ap seen c.in-Record.is) ∙ c.judge-found.ensures)

pub put_line-end-requires : goal.put_line-end-requires
put_line-end-requires c =
    let f = record-known (goal.at.put_line-end-requires c).In-Record in
    (line-room _ _ _ _ _ _ _ _ c.loop-kind.invariant _ _ _ f, f.most)

pub overflow_add-at : goal.overflow_add-at
overflow_add-at c =
    omega (arith, (record-known (goal.at.overflow_add-at c).In-Record).within, c.loop-kind.invariant.fits)

pub loop-kind-smaller : goal.loop-kind-smaller
loop-kind-smaller c =
    let f = record-known (goal.at.loop-kind-smaller c).In-Record in omega (arith, f.least, f.within)

pub loop-kind-preserved : goal.loop-kind-preserved
loop-kind-preserved c =
    let p = c.put_line-end.ensures in
    round-goes _ _ _ _ _ _ _ _ c.loop-kind.invariant _ _ _ _ _ (record-known (goal.at.loop-kind-preserved c).In-Record) p.puts p.upper_bound (search rules)

pub shape_of-out-in-More : goal.shape_of-out-in-More
shape_of-out-in-More c = c.loop-kind.invariant.same

pub returns-in-More : goal.returns-in-More
returns-in-More c =
    round-waits _ _ _ _ _ _ _ _ c.loop-kind.invariant (sym (ap seen c.in-More.is) ∙ c.judge-found.ensures)

pub put_last-end-requires : goal.put_last-end-requires
put_last-end-requires c =
    last-room _ _ _ _ _ _ _ _ c.loop-kind.invariant

pub returns-in-Stop : goal.returns-in-Stop
returns-in-Stop c =
    let f = stop-there _ c.args.w.now c.loop-kind.at _ (number_told c.in-Stop.stop) (beside_told c.in-Stop.stop) (sym (ap seen c.in-Stop.is) ∙ c.judge-found.ensures) in
    let p = c.put_last-end.ensures in
    round-stops _ _ _ _ _ _ _ _ c.loop-kind.invariant _ _ _ _ f p.puts p.upper_bound (search rules)
