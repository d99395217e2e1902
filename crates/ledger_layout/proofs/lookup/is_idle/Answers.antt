-- `is_idle` meets its contract. Assumes nothing.
use Rattle.std.proofs.Common.{◌≡◌, refl, ◌∙◌, true, false, rules}
use Rattle.std.proofs.lemmas.Iterator.{cases_from_all, YieldsList-from_range}
use Rattle.ledger_model.specs.Book.{desk}
use Rattle.ledger_sheet.specs.Sheet.{desk_count}
use Rattle.ledger_layout.specs.Layout.{book_of}
use Rattle.ledger_layout.proofs.Scans.{all-range}
use Rattle.ledger_layout.proofs.Readers.{is_elsewhere, none_open}
use Rattle.ledger_layout.proofs.lookup.is_idle.Goals as goal

pub returns : goal.returns
returns c =
    let b = book_of c.args.s.now in
    let row = c.args.row in
    all-range desk_count (λ d. is_elsewhere row (desk b d)) _
    (cases_from_all _ _ _ (λ d. is_elsewhere row (desk b d) ≡ true) (λ d. is_elsewhere row (desk b d) ≡ false) c.all.ensures.ran
    (YieldsList-from_range 0 desk_count desk_count refl refl) (λ x q k. search rules) (λ x q k. search rules))
    ∙ none_open _ _
