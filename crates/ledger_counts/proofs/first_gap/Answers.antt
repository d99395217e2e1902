-- `ledger_counts::first_gap` meets its contract. The invariants: the first gap is that of the rows from `row` on; of that row the
-- positions of the first k blocks are ticked. Assumes nothing.
use Prim.Native.Nat.{ℕ, ◌*◌, ◌-◌, ◌≤◌, ◌<◌}
use mathlib.Core.Bool.{true}
use mathlib.Core.List.{List}
use mathlib.Core.Path.{◌≡◌, refl, sym, ap, ◌∙◌}
use native.Mathlib.Omega.{arith}
use Rattle.ledger_sheet.specs.Sheet.{row_count, row_at}
use Rattle.ledger_sheet.specs.Words.{gap_values}
use Rattle.ledger_layout.specs.Ticks.{ticked_at}
use Rattle.ledger_layout.proofs.Scans.{Each}
use Rattle.ledger_counts.specs.inner.Blocks.{block_bits, TickedFrom}
use Rattle.ledger_counts.proofs.Starts.{ticked-join}
use Rattle.ledger_counts.proofs.Reports.{gap-on, row_end, row-end-within, gap-next, gap_here, gap-none}
use Rattle.ledger_counts.proofs.first_gap.Goals as goal

-- a row whose positions are ticked up to block k, and from there to a position that is not below its end, is ticked up to its end
ended : (s : List ℕ) (row i j : ℕ) {a end : ℕ} → a ≡ row_at row → end ≡ row_end s row → end ≤ j → TickedFrom s a 0 i → TickedFrom s a i j
    → Each true (ticked_at s (row_at row)) (row_end s row)
ended s row i j is e l below above n h = rw is at (ticked-join s _ 0 i j below above n (omega arith) (omega arith))

pub rows-init : goal.rows-init
rows-init c = (omega arith, refl, refl)

pub loop-k-init : goal.loop-k-init
loop-k-init c = (omega arith, c.rows.invariant.1, λ j h l. absurd (omega arith))

pub rows-preserved-then-end-eq0 : goal.rows-preserved-then-end-eq0
rows-preserved-then-end-eq0 c =
    let s = c.args.s.now in
    let row = c.rows.row in
    let none : row_end s row ≡ 0 = omega (arith, c.row_end-end.ensures, c.if-end-eq0.true) in
    (omega arith, c.rows.invariant.1, c.rows.invariant.2 ∙ gap-next s row row_count (omega arith) (λ j l. absurd (omega (arith, none))))

pub rows-preserved-in-Some : goal.rows-preserved-in-Some
rows-preserved-in-Some c =
    let s = c.args.s.now in
    let row = c.rows.row in
    let found = c.in-Some.ensures in
    let ticked = ended s row _ _ c.row_at-a.ensures c.row_end-end.ensures c.if-at-end.false c.loop-k.invariant.2 found.ticked in
    (omega arith, c.loop-k.invariant.1, c.rows.invariant.2 ∙ gap-next s row row_count (omega arith) ticked)

pub rows-preserved : goal.rows-preserved
rows-preserved c =
    let s = c.args.s.now in
    let row = c.rows.row in
    let all : c.row_end-end.result ≤ block_bits * c.loop-k.k = omega (arith, row-end-within s row, c.row_end-end.ensures) in
    let ticked = ended s row _ _ c.row_at-a.ensures c.row_end-end.ensures all c.loop-k.invariant.2 (λ j h l. absurd (omega arith)) in
    (omega arith, c.loop-k.invariant.1, c.rows.invariant.2 ∙ gap-next s row row_count (omega arith) ticked)

pub returns-after-rows : goal.returns-after-rows
returns-after-rows c =
    let e : row_count - c.rows.row ≡ 0 = omega arith in
    ap gap_values c.rows.invariant.1 ∙ sym (rw e at c.rows.invariant.2 ∙ gap-none _ _) ∙ gap-on _

pub returns-then-at-end : goal.returns-then-at-end
returns-then-at-end c =
    let s = c.args.s.now in
    let row = c.rows.row in
    let a = c.row_at-a.ensures in
    let at = c.in-Some.at in
    let found = c.in-Some.ensures in
    let below = ticked-join s c.row_at-a.result 0 (block_bits * c.loop-k.k) at c.loop-k.invariant.2 found.ticked in
    let within : at < row_end s row = omega (arith, c.row_end-end.ensures) in
    let gap = gap_here s row row_count (omega arith) at within (λ j l. rw a at (below j (omega arith) l)) (rw a at found.unticked) in
    rw (c.number_in.ensures, a) (sym (c.rows.invariant.2 ∙ gap) ∙ gap-on s)
