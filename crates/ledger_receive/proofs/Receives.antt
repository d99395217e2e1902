-- A receive by its rules: refused, or made. Assumes nothing.
use Prim.Native.Nat.{ℕ}
use native.Mathlib.Omega.{arith}
use mathlib.Core.Path.{◌≡◌, refl, ap}
use mathlib.Core.List.{List, [], ◌∷◌, ◌++◌}
use lib.ListN.{get_or, take, drop}
use borrow.Author.Tests.{not-false}
use Rattle.ledger_model.proofs.Outcome.{desk-closed}
use Rattle.refusals.specs.declared.Refusal.{Refusal}
use Rattle.refusals.specs.Table.{number_of}
use Rattle.refusals.specs.Judge.{verdict}
use Rattle.refusals.proofs.Judged.{NoneHolds, verdict-none, none-judge}
use Rattle.refusals.proofs.Laws.{number-positive}
use Rattle.refusals.specs.Words.{Different}
use Rattle.refusals.proofs.Words.{answers-differ}
use Rattle.std.specs.Prelude.{Result, Ok, Err}
use Rattle.sfdu.specs.declared.Fault.{Fault}
use Rattle.sfdu_stream.specs.Walk.{stop_words}
use Rattle.sfdu_stream.proofs.Words.{same-walked}
use Rattle.ledger_model.specs.Book.{desk}
use Rattle.ledger_layout.specs.Layout.{book_of}
use Rattle.ledger_layout.proofs.Rules.{given-judge}
use Rattle.ledger_receive.specs.Receive.{DifferentReceived, received_values, receive_rules, receiving, receive_on}
use Rattle.ledger_receive.specs.Laws.{Accepted}
use Rattle.ledger_receive.specs.inner.Calls.{Ready}
use Rattle.ledger_receive.proofs.Sheets.{}

module _ (d : ℕ) (s : List ℕ) where
  pub receive-refused : (stream list : List ℕ) (q : Refusal) → number_of q ≡ verdict (receive_rules d s) → (number_of q ∷ [], list, s) ≡ receive_on d stream list s
  unfolding receive_on
  receive-refused stream list q e =
      given-judge (λ number. (number ∷ [], list, s)) (receive_rules d s) _ e (number-positive q)

-- Where it is not refused, the sheet is right, the desk has no row open, and the receive is made.
module _ (d : ℕ) (s : List ℕ) (a : Accepted d s) where
  none-holds : NoneHolds (receive_rules d s)
  none-holds = verdict-none (receive_rules d s) (omega arith, (omega arith, (omega arith, tt))) a

  pub ready : Ready d s
  ready =
      record {
        is_right = not-false _ none-holds.0;
        is-desk = not-false _ none-holds.1.0;
        is-closed = desk-closed (desk (book_of s) d) none-holds.1.1.0;
      }

  pub made-is : (stream list : List ℕ) → receive_on d stream list s ≡ receiving d stream list (book_of s)
  unfolding receive_on
  made-is stream list = none-judge (λ number. (number ∷ [], list, s)) (receive_rules d s) _ none-holds

-- ---- different answers have different words

stop-words : (a b : Result (Unit {0}) Fault) (m n : ℕ) → stop_words a ++ (m ∷ []) ≡ stop_words b ++ (n ∷ []) → (stop_words a ≡ stop_words b) × (m ≡ n)
stop-words (Ok u) (Ok v) m n e = (refl, ap (λ (l : List ℕ). get_or l 2 0) e)
stop-words (Ok u) (Err f) m n e = (ap (λ (l : List ℕ). take 2 l) e, ap (λ (l : List ℕ). get_or l 2 0) e)
stop-words (Err f) (Ok u) m n e = (ap (λ (l : List ℕ). take 2 l) e, ap (λ (l : List ℕ). get_or l 2 0) e)
stop-words (Err f) (Err g) m n e = (ap (λ (l : List ℕ). take 2 l) e, ap (λ (l : List ℕ). get_or l 2 0) e)

received-differ : Different received_values
received-differ a b e =
    let v = a.walked in
    let w = b.walked in
    let rest = stop-words v.stop w.stop a.ticked b.ticked (ap (λ (l : List ℕ). drop 2 l) e) in
    let count : v.count ≡ w.count = ap (λ (l : List ℕ). get_or l 0 0) e in
    let place : v.place ≡ w.place = ap (λ (l : List ℕ). get_or l 1 0) e in
    let same : v ≡ w = same-walked v w (λ j. count j ∷ place j ∷ rest.0 j) in
    λ j. record { walked = same j; ticked = rest.1 j }

pub different-received : DifferentReceived
different-received = answers-differ received_values received-differ
