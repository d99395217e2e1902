-- `write_desks` meets its contract. The invariant: the first d desks are laid out. Assumes nothing.
use Prim.Native.Nat.{◌-◌, ◌+◌}
use mathlib.Core.Path.{◌≡◌}
use native.Mathlib.Omega.{arith}
use borrow.Author.Tests.{eq-eqb, ne_eqb}
use Rattle.ledger_sheet.specs.Sheet.{key_start, row_count, desk_count, opened_at}
use Rattle.ledger_convert.specs.Old as Old
use Rattle.ledger_convert.proofs.Read.{long, value-ticks}
use Rattle.ledger_convert.proofs.Laying.{desk-laid, closed-laid, desk-copied}
use Rattle.ledger_convert.proofs.write_desks.Goals as goal
use Rattle.ledger_convert.proofs.write_desks.Goals.{then-old-from-ne-CLOSED, else-old-from-ne-CLOSED}

pub loop-d-init : goal.loop-d-init
loop-d-init c = (omega arith, c.requires.laid)

pub bounds-old-from : goal.bounds-old-from
bounds-old-from c =
    omega (arith, long c.args.old.now c.requires.right_sheet)

pub read_row-opened-requires : goal.read_row-opened-requires
read_row-opened-requires c =
    omega (arith, long c.args.old.now c.requires.right_sheet)

pub read_row-worked-requires : goal.read_row-worked-requires
read_row-worked-requires c =
    omega (arith, long c.args.old.now c.requires.right_sheet)

pub bounds-old-from-then-old-from-ne-CLOSED : goal.bounds-old-from-then-old-from-ne-CLOSED
bounds-old-from-then-old-from-ne-CLOSED c =
    omega (arith, long c.args.old.now c.requires.right_sheet)

pub write_desk-requires : goal.write_desk-requires
write_desk-requires c =
    let old = c.args.old.now in record {
      sized = (c.loop-d.invariant.1.long, omega arith);
      ticks = (
        value-ticks old _ _ (omega (arith, long old c.requires.right_sheet)) c.read_row-opened.ensures,
        value-ticks old _ _ (omega (arith, long old c.requires.right_sheet)) c.read_row-worked.ensures,
      );
    }

pub loop-d-preserved : goal.loop-d-preserved
loop-d-preserved c =
    let old = c.args.old.now in
    let right = c.requires.right_sheet in
    let d = c.loop-d.d in
    let from = c.desk_at-from.result in
    let desk = c.desk_at-from.ensures in
    let bytes = c.shared_slice_known-1.given in
    elim c.if-old-from-ne-CLOSED.branch [
      | then-old-from-ne-CLOSED w ↦ (
        omega arith,
        rw w.new-is
            (desk-laid old c.loop-d.new row_count d c.loop-d.invariant.1 _ _ (omega arith)
            (desk-copied old right bytes d (from + opened_at - key_start) (from + Old.worked_at - key_start) (omega arith)
            (ne_eqb _ _ (rw desk at w.if-old-from-ne-CLOSED.true)) (omega arith) (omega arith) _ _ w.read_row-opened.ensures w.read_row-worked.ensures)
            (rw desk at w.write_desk.ensures)),
      )
      | else-old-from-ne-CLOSED w ↦
          (omega arith, rw w.new-is (closed-laid old c.loop-d.new row_count d c.loop-d.invariant.1 (eq-eqb _ _ (rw desk at w.if-old-from-ne-CLOSED.false))))
    ]

pub returns : goal.returns
returns c =
    let e : c.loop-d.d ≡ desk_count = omega arith in
    rw e at c.loop-d.invariant.1
