-- `ledger_receive::visit_stream` meets its contract. Assumes nothing.
use Prim.Native.Nat.{ℕ}
use mathlib.Core.List.{List}
use mathlib.Core.Path.{◌≡◌, sym, ap, ◌∙◌}
use Rattle.refusals.proofs.Laws.{number-positive}
use Rattle.ledger_model.specs.Step.{Ask, Find, answer_words, step}
use Rattle.ledger_sheet.specs.Words.{row_words}
use Rattle.ledger_layout.specs.Layout.{book_of}
use Rattle.ledger_judged.proofs.Judged.{handed}
use Rattle.ledger_receive.proofs.Sheets.{holds-own, after}
use Rattle.ledger_receive.proofs.Visits.{found-row, found_none, visiting-row, visiting-none}
use Rattle.ledger_receive.proofs.visit_stream.Goals as goal
use Rattle.ledger_receive.proofs.visit_stream.Goals.{After-find}

-- What find answers, in the model's words.
words : (c : After-find)
    → let g = c.args in
    row_words c.find.result ≡ answer_words (step (Ask (Find g.key)) (book_of g.s.now)).answer
words c =
    let g = c.args in
    (after (Ask (Find g.key)) (holds-own g.s.now c.slice_known-1.given c.requires.0) c.find.ensures).words_are

pub find-requires : goal.find-requires
find-requires c = sym c.requires.0

pub returns-in_err-row : goal.returns-in_err-row
returns-in_err-row c =
    let g = c.args in
    let b = book_of g.s.now in
    let why = c.in_err-row.field-0.0 in
    let laid = (holds-own g.s.now c.slice_known-1.given c.requires.0).is-laid in
    let h = found_none b g.key c.requires.1 _ (number-positive why)
    (sym (ap row_words c.in_err-row.was) ∙ words (goal.at.returns-in_err-row c).After-find) in
    rw (handed c.from_residual.ensures, h.1) (ap (λ (t : List ℕ). (25, t)) laid ∙ sym (visiting-none g.desk g.key g.number b h.0))

pub returns : goal.returns
returns c =
    let g = c.args in
    let b = book_of g.s.now in
    let h = found-row b g.key c.requires.1 c.in_ok-row.row (sym (ap row_words c.in_ok-row.was) ∙ words (goal.at.returns c).After-find) in
    c.visit_row.ensures
    ∙ rw h.1 (visiting-row g.desk g.key g.number b h.0)
