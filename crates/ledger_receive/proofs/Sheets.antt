-- A call on a sheet that is a well-formed book laid out. Assumes nothing.
use Prim.Native.Nat.{ℕ}
use mathlib.Core.Path.{◌≡◌, sym, ap, ◌∙◌}
use mathlib.Core.Bool.{true}
use mathlib.Core.List.{List}
use Rattle.std.specs.Prelude.{Result, Ok, Err}
use Rattle.refusals.specs.declared.Refusal.{Refusal}
use Rattle.refusals.proofs.Laws.{number-positive}
use Rattle.ledger_model.specs.Book.{Book}
use Rattle.ledger_model.specs.Step.{Call, answer_words, step}
use Rattle.ledger_model.specs.WellFormed.{WellFormed}
use Rattle.ledger_model.proofs.Outcome.{outcome}
use Rattle.ledger_model.proofs.WellFormed.{well-formed}
use Rattle.ledger_model.proofs.Laws.{words-injective, step-proper}
use Rattle.octets.proofs.Laws.{Bytes}
use Rattle.ledger_sheet.specs.Sheet.{right}
use Rattle.ledger_sheet.specs.Words as Words
use Rattle.ledger_layout.specs.Layout.{layout, book_of, call, on_sheet}
use Rattle.ledger_layout.specs.Demand3.{answer_of}
use Rattle.ledger_layout.proofs.Read.{read-law, book-fine}
use Rattle.ledger_layout.proofs.Right.{reads-back, layout-right}
use Rattle.ledger_layout.proofs.Sheets.{on-layout}

-- The sheet s is the book b laid out.
pub record Holds (s : List ℕ) (b : Book) : Type 0 where
  pub is-well : WellFormed b
  pub is-laid : s ≡ layout b

pub holds-right : {s : List ℕ} {b : Book} → Holds s b → right s ≡ true
holds-right {b = b} h = rw h.is-laid (layout-right b h.is-well)

pub holds-book : {s : List ℕ} {b : Book} → Holds s b → book_of s ≡ b
holds-book {b = b} h = ap book_of h.is-laid ∙ reads-back b h.is-well

pub holds-own : (s : List ℕ) → Bytes s → right s ≡ true → Holds s (book_of s)
holds-own s bytes r = record { is-well = book-fine s bytes r; is-laid = sym (read-law s bytes r) }

-- A call on it.
pub record After (c : Call) (b : Book) (words t : List ℕ) : Type 0 where
  pub words_are : words ≡ answer_words (step c b).answer
  pub holds : Holds t (step c b).book

pub after : (c : Call) {b : Book} {s words t : List ℕ} → Holds s b → (words, t) ≡ on_sheet (call c) s → After c b words t
after c {b = b} {s = s} {words = words} {t = t} h e =
    let q : ◌≡◌ {A = List ℕ × List ℕ} (words, t) (answer_words (step c b).answer, layout (step c b).book) =
    e ∙ ap (on_sheet (call c)) h.is-laid ∙ on-layout (call c) b h.is-well in
    record {
      words_are = ap (λ o. o.0) q;
      holds = record { is-well = well-formed b h.is-well (outcome c b); is-laid = ap (λ o. o.1) q };
    }

-- The answer is the model's.
pub answer-is : (a : Result (Unit {0}) Refusal) (c : Call) (b : Book) → Words.answer_words a ≡ answer_words (step c b).answer → answer_of a ≡ (step c b).answer
answer-is (Ok u) c b e = words-injective (answer_of (Ok u)) (step c b).answer tt (step-proper c b) e
answer-is (Err q) c b e = words-injective (answer_of (Err q)) (step c b).answer (number-positive q) (step-proper c b) e
