-- `rows::strike_row` meets its contract. Assumes nothing.
use native.Mathlib.Omega.{arith}
use mathlib.Core.Path.{◌∙◌}
use Rattle.ledger_layout.proofs.Readers.{row-there, some-used}
use Rattle.ledger_layout.proofs.Writers.{strike-on}
use Rattle.ledger_changes.proofs.rows.strike_row.Goals as goal

pub rows_used-used-requires : goal.rows_used-used-requires
rows_used-used-requires c = c.requires.0.1

pub row_at-requires : goal.row_at-requires
row_at-requires c = omega (arith, row-there _ _ c.requires.1)

pub clear-requires : goal.clear-requires
clear-requires c =
    let pre = c.requires in
    omega (arith, row-there _ _ pre.1)

pub overflow_sub-used : goal.overflow_sub-used
overflow_sub-used c =
    let pre = c.requires in
    omega (arith, c.rows_used-used.ensures, some-used _ _ pre.0.0 pre.1)

pub returns : goal.returns
returns c =
    let pre = c.requires in
    (rw (c.rows_used-used.ensures, c.clear.ensures, c.row_at.ensures) at c.write_be.ensures)
    ∙ strike-on _ c.slice_known-1.given pre.0.0 _ pre.1 pre.2
