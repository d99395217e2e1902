-- `desks::is_current` meets its contract. Assumes nothing.
use native.Mathlib.Omega.{arith}
use mathlib.Core.Path.{◌≡◌, sym, ◌∙◌}
use Rattle.ledger_model.specs.Book.{desk, place_of}
use Rattle.ledger_layout.specs.Layout.{book_of}
use Rattle.ledger_layout.proofs.Readers.{place-in}
use Rattle.ledger_layout.proofs.Scans.{opened-is}
use Rattle.ledger_layout.proofs.Writers.{current-on}
use Rattle.ledger_changes.proofs.desks.is_current.Goals as goal
use Rattle.ledger_changes.proofs.desks.is_current.Goals.{After-unwrap}

-- The row that the desk has open.
named : (c : After-unwrap) → let g = c.args in c.unwrap.result ≡ place_of (desk (book_of g.s.now) g.d)
named c = opened-is _ c.requires.2 (sym c.open_row.ensures ∙ c.unwrap.ensures)

pub row_at-row-requires : goal.row_at-row-requires
row_at-row-requires c =
    let pre = c.requires in
    omega (arith, named c, place-in _ _ pre.1 pre.0.0 pre.2)

pub is_same-requires : goal.is_same-requires
is_same-requires c =
    let pre = c.requires in
    omega (arith, place-in _ _ pre.1 pre.0.0 pre.2, named (goal.at.is_same-requires c).After-unwrap)

pub returns : goal.returns
returns c =
    rw (c.is_same.ensures, c.desk_at.ensures, c.row_at-row.ensures, named (goal.at.returns c).After-unwrap)
    (current-on _ c.shared_slice_known-1.given c.requires.0.0 _ c.requires.2)
