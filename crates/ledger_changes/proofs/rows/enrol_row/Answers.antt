-- `rows::enrol_row` meets its contract. Assumes nothing.
use native.Mathlib.Omega.{arith}
use mathlib.Core.Path.{◌≡◌, sym, ◌∙◌}
use Rattle.octets.proofs.Laws.{number_lt}
use Rattle.ledger_model.specs.Book.{lowest_free}
use Rattle.ledger_sheet.specs.Sheet.{header_number_size, used_at}
use Rattle.ledger_layout.specs.Layout.{book_of}
use Rattle.ledger_layout.proofs.Scans.{free_in, found-is, some-in}
use Rattle.ledger_layout.proofs.Writers.{enrol-on}
use Rattle.ledger_changes.specs.inner.Rows.{blank_row, blank_ticks}
use Rattle.ledger_changes.proofs.rows.enrol_row.Goals as goal
use Rattle.ledger_changes.proofs.rows.enrol_row.Goals.{After-unwrap-row}

pub unwrap-row-requires : goal.unwrap-row-requires
unwrap-row-requires c = rw c.free_row.ensures (some-in _ (free_in _ c.requires.1))

-- The row that is found.
is : (c : After-unwrap-row) → c.unwrap-row.result ≡ lowest_free (book_of c.args.s.now).places
is c = found-is _ (free_in _ c.requires.1) (sym c.free_row.ensures ∙ c.unwrap-row.ensures)

pub overflow_add-used : goal.overflow_add-used
overflow_add-used c =
    omega (arith, number_lt c.args.s.now used_at header_number_size c.slice_known-1.given, c.rows_used-used.ensures)

pub returns-clause-enrolled : goal.returns-clause-enrolled
unfolding blank_row blank_ticks
returns-clause-enrolled c =
    let pre = c.requires in
    let row = is (goal.at.returns-clause-enrolled c).After-unwrap-row in
    rw row
    ((rw (c.rows_used-used.ensures, c.write_row.ensures, c.row_at.ensures, c.blank_row.ensures, row) at c.write_be.ensures)
    ∙ enrol-on _ c.slice_known-1.given pre.0.0 _ _ pre.1)
