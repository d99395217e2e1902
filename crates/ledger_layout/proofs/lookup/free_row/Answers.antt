-- `free_row` meets its contract. Assumes nothing.
use Rattle.std.proofs.Common.{◌≡◌, refl, sym, ap, ◌∙◌, true, false, not, rules}
use Rattle.std.proofs.lemmas.Iterator.{first_from_Range}
use Rattle.ledger_sheet.specs.Sheet.{row_count, is_used}
use Rattle.ledger_layout.specs.inner.Scans.{found}
use Rattle.ledger_layout.proofs.Scans.{find-lowest, lowest-same, free-place, lowest-free}
use Rattle.ledger_layout.proofs.lookup.free_row.Goals as goal

pub returns : goal.returns
returns c =
    let s = c.args.s.now in
    find-lowest row_count (λ i. not (is_used s i)) _
    (first_from_Range _ _ _ _ (λ i. not (is_used s i) ≡ true) (λ i. not (is_used s i) ≡ false) c.find.ensures.ran
    (λ x q k. search rules) (λ x q k. search rules))
    ∙ ap found (lowest-same row_count _ _ (λ i l. sym (free-place s i l refl)) ∙ lowest-free s)
