-- `right::are_desks` meets its contract. The invariant: the bytes from `zeros` up to desk d are still to be tested for zero, and all before them are
-- tested. Assumes nothing.
use mathlib.Core.Path.{◌≡◌}
use native.Mathlib.Omega.{arith}
use Rattle.ledger_sheet.specs.Sheet.{desk_count}
use Rattle.ledger_sheet.proofs.Clauses.{none-judged, closed-judged, open-judged}
use Rattle.ledger_sheet.proofs.right.are_desks.Goals as goal
use Rattle.ledger_sheet.proofs.right.are_desks.Goals.{then-s-desk-ne-CLOSED, else-s-desk-ne-CLOSED}

pub loop-d-init : goal.loop-d-init
loop-d-init c = (omega arith, omega (arith, c.requires.within), none-judged _ _ _ c.requires)

pub is_open_desk-right-requires : goal.is_open_desk-right-requires
is_open_desk-right-requires c =
    let place = c.desk_at-desk.ensures in
    (omega arith, rw (← place) c.if-s-desk-ne-CLOSED.true)

pub loop-d-preserved : goal.loop-d-preserved
loop-d-preserved c =
    let place = c.desk_at-desk.ensures in
    elim c.if-s-desk-ne-CLOSED.branch [
      | then-s-desk-ne-CLOSED w ↦ (
        omega arith,
        rw w.zeros-is (omega arith),
        rw (w.right-is, w.zeros-is, w.is_long_zero-right.ensures, w.is_open_desk-right.ensures, place)
            (open-judged _ c.loop-d.right c.loop-d.zeros c.loop-d.d c.loop-d.invariant.2 c.loop-d.invariant.1),
      )
      | else-s-desk-ne-CLOSED w ↦ (
        omega arith,
        rw w.zeros-is (omega arith),
        rw (w.right-is, w.zeros-is)
            (closed-judged _ c.loop-d.right c.loop-d.zeros c.loop-d.d c.loop-d.invariant.2 c.loop-d.invariant.1 (rw place at w.if-s-desk-ne-CLOSED.false)),
      )
    ]

pub returns : goal.returns
returns c =
    let e : c.loop-d.d ≡ desk_count = omega arith in
    let h = c.loop-d.invariant.2 in
    rw c.is_long_zero.ensures (rw e at h)
