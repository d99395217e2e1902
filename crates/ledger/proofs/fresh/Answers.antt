-- `fresh` meets its contract. Assumes nothing.
use native.Mathlib.Omega.{arith}
use lib.ListN.{length}
use borrow.Author.Tests.{eq-eqb, ne_eqb}
use Rattle.ledger_sheet.specs.Sheet.{sheet_size}
use Rattle.ledger_layout.specs.Layout.{fresh_on}
use Rattle.ledger_layout.proofs.Sheets.{fresh-layout}
use Rattle.ledger.proofs.fresh.Goals as goal

pub returns-then-s-ne-SHEET : goal.returns-then-s-ne-SHEET
unfolding fresh_on
returns-then-s-ne-SHEET c = rw (ne_eqb (length c.args.s.now) sheet_size (λ z. omega arith))

pub returns : goal.returns
unfolding fresh_on
returns c = rw (eq-eqb _ _ c.if-s-ne-SHEET.false, c.make_fresh.ensures, fresh-layout)
