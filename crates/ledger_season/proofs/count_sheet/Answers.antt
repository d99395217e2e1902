-- `count_sheet` meets its contract. The invariant: the first rows are counted. Assumes nothing.
use mathlib.Core.Path.{◌≡◌}
use native.Mathlib.Omega.{arith}
use Rattle.ledger_sheet.specs.Sheet.{row_count}
use Rattle.ledger_season.proofs.Rows.{counted_none, counted-more, counted-all}
use Rattle.ledger_season.proofs.count_sheet.Goals as goal

pub loop-row-init : goal.loop-row-init
loop-row-init c = (omega arith, counted_none _)

pub add_row-sum-requires : goal.add_row-sum-requires
add_row-sum-requires c =
    let at = c.loop-row.invariant.1 in
    (c.requires, omega arith, at.ticked-few, at.missing-few)

pub loop-row-preserved : goal.loop-row-preserved
loop-row-preserved c =
    (omega arith, counted-more c.args.s.now c.loop-row.row _ _ (omega arith) c.loop-row.invariant.1 c.add_row-sum.ensures)

pub returns : goal.returns
returns c =
    let end : c.loop-row.row ≡ row_count = omega arith in
    counted-all c.args.s.now _ (rw end at c.loop-row.invariant.1)
