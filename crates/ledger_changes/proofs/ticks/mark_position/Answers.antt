-- `ticks::mark_position` meets its contract. Assumes nothing.
use Prim.Native.Nat.{◌+◌, ◌/◌, ◌%◌}
use mathlib.Core.Bool.{true, false}
use mathlib.Core.Path.{sym, ◌∙◌}
use native.Mathlib.Omega.{arith}
use lib.ListN.{get_or}
use borrow.Author.Tests.{eqb-true, eqb-false}
use Rattle.laws.proofs.Bools.{failed, passed}
use Rattle.ledger_sheet.specs.Sheet.{ticks_at, byte_bits}
use Rattle.ledger_layout.specs.Ticks.{ticked_at}
use Rattle.ledger_changes.specs.inner.Rows.{set_tick, clear_tick}
use Rattle.ledger_layout.proofs.Bits.{bit-room, bit-under}
use Rattle.ledger_changes.proofs.Marks.{mark-outside, mark-same, mark-changed}
use Rattle.ledger_changes.proofs.ticks.mark_position.Goals as goal

pub returns-then-i-ge-POSITIONS : goal.returns-then-i-ge-POSITIONS
returns-then-i-ge-POSITIONS c = mark-outside _ _ _ c.if-i-ge-POSITIONS.true

pub returns-then-ticked : goal.returns-then-ticked
returns-then-ticked c =
    rw c.if-on.true (mark-same _ _ true c.if-i-ge-POSITIONS.false (sym c.is_ticked-ticked.ensures ∙ c.if-ticked.true))

pub overflow_add-row : goal.overflow_add-row
unfolding ticked_at
overflow_add-row c =
    let g = c.args in
    let at = ticks_at + g.i / byte_bits in
    let clear = eqb-false _ _ (sym c.is_ticked-ticked.ensures ∙ c.if-ticked.false) in
    let room = bit-room (get_or g.row.now at 0) (omega (arith, c.slice_known-then-on-1.given at)) (g.i % byte_bits) (omega arith) clear in
    rw c.tick_bit-bit.ensures (record { fits = room })

pub returns-then-on : goal.returns-then-on
unfolding set_tick
returns-then-on c =
    let bit = c.tick_bit-bit.ensures in
    rw (c.if-on.true, bit)
    (mark-changed _ _ true c.if-i-ge-POSITIONS.false (sym c.is_ticked-ticked.ensures ∙ c.if-ticked.false))

pub returns-then-not-ticked : goal.returns-then-not-ticked
returns-then-not-ticked c =
    rw c.if-on.false (mark-same _ _ false c.if-i-ge-POSITIONS.false (failed c.is_ticked-ticked.ensures c.if-not-ticked.true-raw))

pub overflow_sub-row : goal.overflow_sub-row
unfolding ticked_at
overflow_sub-row c =
    let g = c.args in
    let set-bit = eqb-true _ _ (passed c.is_ticked-ticked.ensures c.if-not-ticked.false-raw) in
    rw c.tick_bit-bit.ensures (bit-under (get_or g.row.now (ticks_at + g.i / byte_bits) 0) (g.i % byte_bits) (omega arith) set-bit)

pub returns : goal.returns
unfolding clear_tick
returns c =
    let bit = c.tick_bit-bit.ensures in
    rw (c.if-on.false, bit)
    (mark-changed _ _ false c.if-i-ge-POSITIONS.false (passed c.is_ticked-ticked.ensures c.if-not-ticked.false-raw))
