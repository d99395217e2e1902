-- Demand 3 for every list of calls on a fresh sheet. Assumes nothing.
use Prim.Native.Nat.{ℕ}
use mathlib.Core.List.{List, map}
use mathlib.Core.Logic.{◌≢◌}
use mathlib.Core.Path.{◌≡◌, refl, sym, ap, ◌∙◌}
use Rattle.refusals.specs.Table.{number_of}
use Rattle.refusals.proofs.Laws.{number-positive}
use mathlib.Core.Bool.{false≢true}
use Rattle.ledger_model.specs.Book.{Book, idle}
use Rattle.ledger_model.specs.Step.{Call, Answer, gave, refused, step, Entry, call_of, book_after}
use Rattle.ledger_model.specs.WellFormed.{WellFormed}
use Rattle.ledger_model.specs.Chain.{Chain}
use Rattle.ledger_model.proofs.WellFormed.{run-well-formed}
use Rattle.ledger_model.proofs.Laws.{Proper, words-injective, step-proper}
use Rattle.ledger_model.proofs.Claim.{chain-claim}
use Rattle.ledger_layout.specs.Bytes.{fresh_sheet}
use Rattle.std.specs.Prelude.{Result, Ok, Err}
use Rattle.refusals.specs.declared.Refusal.{Refusal}
use Rattle.refusals.specs.Words as Words
use Rattle.ledger_layout.specs.Layout.{layout, call, on_sheet}
use Rattle.ledger_layout.specs.Demand3.{told_of, header_and_rows}
use Rattle.ledger_layout.specs.inner.Demand3.{Meets, MetCalls}
use Rattle.ledger_layout.proofs.Places.{shape, front-part}
use Rattle.ledger_layout.proofs.Sheets.{fresh-layout, on-layout}

-- ---- one call

pub proper : (a : Answer) → a ≢ refused 0 → Proper a
proper (gave words) h = tt
proper (refused number) h = λ e. h (ap refused e)

-- a call that keeps its promise on the layout of a well-formed book does what the model does
each : (c : Call) (b : Book) (a : Answer) (t : List ℕ) → WellFormed b → Meets c (layout b) a t
    → (a ≡ (step c b).answer) × (t ≡ layout (step c b).book)
each c b a t ok m =
    let same = m.1 ∙ on-layout (call c) b ok in
    (words-injective a (step c b).answer (proper a m.0) (step-proper c b) (ap (λ r. r.0) same), ap (λ r. r.1) same)

-- an answer that is no refusal with the number 0
improper : (a : Answer) → Proper a → a ≢ refused 0
improper (gave words) h e = false≢true cc
improper (refused number) h e = h (cc)

-- What a contract says, with the answer as the function's result.
pub answer-meets : {A : Type 0} (values : A → List ℕ) (c : Call) (s : List ℕ) (r : Result A Refusal) (t : List ℕ)
    → (Words.answer_words values r, t) ≡ on_sheet (call c) s → Meets c s (told_of values r) t
answer-meets values c s (Ok x) t e = (improper (gave (values x)) tt, e)
answer-meets values c s (Err q) t e = (improper (refused (number_of q)) (number-positive q), e)

-- ---- the theorem

front_same : (b : Book) → WellFormed b → header_and_rows (layout (idle b.places)) ≡ header_and_rows (layout b)
front_same b ok =
    front-part (idle b.places) (record { rows-count = ok.places_count; desks-count = refl }) ∙ sym (front-part b (shape ok))

pub demand3 : {log : List Entry} {last : List ℕ} → Chain Meets fresh_sheet log last → MetCalls log last
demand3 {log = log} {last = last} chain =
    let claim = chain-claim Meets layout each (rw fresh-layout at chain) in
    record {
      claim = claim;
      serial_rows = λ again end other e.
          ap header_and_rows (claim.serial_store again end other e).1
          ∙ front_same (book_after log) (run-well-formed (map call_of log))
          ∙ ap header_and_rows (sym claim.model_store);
    }
