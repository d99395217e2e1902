-- Calls on a fresh sheet are the model's, laid out. Assumes nothing.
use Prim.Native.Nat.{ℕ}
use mathlib.Core.List.{List, [], ◌∷◌, map}
use mathlib.Core.Path.{◌≡◌, refl, ap, ◌∙◌}
use Rattle.ledger_model.specs.Book.{Book, fresh}
use Rattle.ledger_model.specs.Step.{Call, answer_words, step, Entry, ◌⇒◌, run}
use Rattle.ledger_model.specs.WellFormed.{WellFormed}
use Rattle.ledger_model.proofs.Outcome.{outcome}
use Rattle.ledger_model.proofs.WellFormed.{well-formed, fresh-well-formed}
use Rattle.ledger_layout.specs.Bytes.{fresh_sheet}
use Rattle.ledger_layout.specs.Layout.{layout, call}
use Rattle.ledger_layout.proofs.Sheets.{on-layout, fresh-layout}
use Rattle.worked.specs.Calls.{answers_on, sheet_after}

abbrev pub words_in : Entry → List ℕ
words_in (c ⇒ a) = answer_words a

from : (calls : List Call) (b : Book) → WellFormed b
    → (answers_on calls (layout b) ≡ map words_in (run b calls).log) × (sheet_after calls (layout b) ≡ layout (run b calls).book)
unfolding answers_on sheet_after run
from [] b w = (refl, refl)
from (c ∷ calls) b w =
    let p = from calls (step c b).book (well-formed b w (outcome c b)) in
    (rw (on-layout (call c) b w, p.0), rw (on-layout (call c) b w, p.1))

pub answers-fresh : (calls : List Call) → answers_on calls fresh_sheet ≡ map words_in (run fresh calls).log
answers-fresh calls = ap (answers_on calls) fresh-layout ∙ (from calls fresh fresh-well-formed).0

pub after-fresh : (calls : List Call) → sheet_after calls fresh_sheet ≡ layout (run fresh calls).book
after-fresh calls = ap (sheet_after calls) fresh-layout ∙ (from calls fresh fresh-well-formed).1
