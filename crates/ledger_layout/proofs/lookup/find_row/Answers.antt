-- `find_row` meets its contract. Assumes nothing.
use Rattle.std.proofs.Common.{◌≡◌, ap, ◌∙◌, true, false, rules}
use Rattle.std.proofs.lemmas.Iterator.{first_from_Range}
use Rattle.ledger_model.specs.Book.{place}
use Rattle.ledger_sheet.specs.Sheet.{row_count}
use Rattle.ledger_layout.specs.Layout.{book_of}
use Rattle.ledger_layout.specs.inner.Scans.{is_row_of, found}
use Rattle.ledger_layout.proofs.Scans.{find-lowest, with-key}
use Rattle.ledger_layout.proofs.lookup.find_row.Goals as goal

pub returns : goal.returns
returns c =
    let b = book_of c.args.s.now in
    let key = c.args.key in
    find-lowest row_count (λ i. is_row_of key (place b i)) _
    (first_from_Range _ _ _ _ (λ i. is_row_of key (place b i) ≡ true) (λ i. is_row_of key (place b i) ≡ false) c.find.ensures.ran
    (λ x q k. search rules) (λ x q k. search rules))
    ∙ ap found (with-key _ _)
