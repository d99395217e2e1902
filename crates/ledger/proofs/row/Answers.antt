-- `row` meets its contract. Assumes nothing.
use native.Mathlib.Omega.{arith}
use mathlib.Core.Bool.{false}
use mathlib.Core.List.{[], ◌∷◌}
use mathlib.Core.Path.{◌≡◌, refl, ap, ◌∙◌}
use Rattle.ledger_model.specs.Book.{place, is_free}
use Rattle.ledger_model.specs.Counts.{place_stream}
use Rattle.ledger_model.specs.Step.{Ask, RowStream, refusals, asked, after_refusal}
use Rattle.ledger_layout.specs.Layout.{book_of}
use Rattle.ledger_layout.specs.inner.Rules.{IsSheet}
use Rattle.ledger_layout.proofs.Readers.{row-there, row-read-on}
use Rattle.ledger_judged.proofs.Judged.{handed, refused-is, answered-is, fine-is}
use Rattle.ledger.proofs.row.Goals as goal
use Rattle.ledger.proofs.row.Goals.{In_ok-row_verdict}

pub returns-in_err-row_verdict : goal.returns-in_err-row_verdict
unfolding refusals after_refusal
returns-in_err-row_verdict c =
    let g = c.args in
    rw (handed c.from_residual.ensures)
    (refused-is (Ask (RowStream g.row)) g.s.now c.shared_slice_known-1.given (λ _. refl) _ c.in_err-row_verdict.ensures)

-- Where the call is not refused, there is such a row.
there : (c : In_ok-row_verdict) → let g = c.args in
    IsSheet g.s.now × (is_free (place (book_of g.s.now) g.row) ≡ false)
unfolding refusals
there c =
    let g = c.args in
    let fine = fine-is (Ask (RowStream g.row)) g.s.now c.in_ok-row_verdict.ensures in
    (fine.0, fine.1.0)

pub row_at-a-requires : goal.row_at-a-requires
row_at-a-requires c = omega (arith, row-there _ _ (there c).1)

pub key_at-requires : goal.key_at-requires
key_at-requires c =
    let h = there (goal.at.key_at-requires c).In_ok-row_verdict in
    omega (arith, c.row_at-a.ensures, row-there _ _ h.1, h.0.1)

pub first_at-requires : goal.first_at-requires
first_at-requires c =
    let h = there (goal.at.first_at-requires c).In_ok-row_verdict in
    omega (arith, c.row_at-a.ensures, row-there _ _ h.1, h.0.1)

pub returns : goal.returns
unfolding refusals asked
returns c =
    let g = c.args in
    let words : c.key_at.result ∷ c.first_at.result ∷ [] ≡ place_stream (place (book_of g.s.now) g.row) =
    rw (row-read-on g.s.now g.row (there (goal.at.returns c).In_ok-row_verdict).1, c.key_at.ensures, c.first_at.ensures, c.row_at-a.ensures) in
    ap (λ w. (0 ∷ w, g.s.now)) words
    ∙ answered-is (RowStream g.row) g.s.now c.shared_slice_known-1.given c.in_ok-row_verdict.ensures
