-- `write_rows` meets its contract. The invariant: the first i rows are laid out. Assumes nothing.
use Prim.Native.Nat.{◌-◌}
use mathlib.Core.Path.{◌≡◌}
use native.Mathlib.Omega.{arith}
use Rattle.ledger_sheet.specs.Sheet.{key_start}
use Rattle.ledger_sheet.specs.Sheet.{used}
use Rattle.ledger_convert.proofs.Read.{few, long}
use Rattle.ledger_convert.proofs.Laying.{row_laid, rows-laid, row_copied}
use Rattle.ledger_convert.proofs.write_rows.Goals as goal

pub loop-i-init : goal.loop-i-init
loop-i-init c = (omega arith, c.requires.laid)

pub row_at-requires : goal.row_at-requires
row_at-requires c =
    omega (arith, few c.args.old.now c.requires.right_sheet.0, c.requires.right_sheet.1)

pub read_row-row-requires : goal.read_row-row-requires
read_row-row-requires c =
    omega (arith, few c.args.old.now c.requires.right_sheet.0, long c.args.old.now c.requires.right_sheet.0, c.requires.right_sheet.1)

pub row_at-requires-in-loop-i : goal.row_at-requires-in-loop-i
row_at-requires-in-loop-i c =
    omega (arith, few c.args.old.now c.requires.right_sheet.0, c.requires.right_sheet.1)

pub write_row-requires : goal.write_row-requires
write_row-requires c =
    let old = c.args.old.now in
    let rows = few old c.requires.right_sheet.0 in
    let bytes = long old c.requires.right_sheet.0 in
    omega (arith, c.loop-i.invariant.1.long, rows, bytes, c.requires.right_sheet.1)

pub loop-i-preserved : goal.loop-i-preserved
loop-i-preserved c =
    let old = c.args.old.now in
    let right = c.requires.right_sheet.0 in
    let bytes = c.shared_slice_known-1.given in
    let from = c.row_at.result in
    let i = c.loop-i.i in (
      omega arith,
      row_laid old c.loop-i.new i 0 c.loop-i.invariant.1 _ _ (omega (arith, few old right, c.requires.right_sheet.1))
          (row_copied old right bytes i (from - key_start) (omega (arith, c.requires.right_sheet.1)) (omega arith) _ c.read_row-row.ensures)
          (rw c.row_at-in-loop-i.ensures at c.write_row.ensures),
    )

pub returns : goal.returns
returns c =
    let e : c.loop-i.i ≡ used c.args.old.now = omega (arith, c.requires.right_sheet.1) in
    rows-laid _ _ 0 (rw e at c.loop-i.invariant.1)
