-- One entry after the other: what holds in each turn of the loop of `play`. Assumes nothing.
use Prim.Native.Nat.{ℕ, suc, ◌+◌, ◌-◌}
use native.Mathlib.Nat.{sub-zero}
use native.Mathlib.Numerals.{add-one}
use mathlib.Core.Bool.{Bool, true, false, cond, ◌&&◌}
use mathlib.Core.List.{List, [], ◌∷◌}
use mathlib.Core.Path.{◌≡◌, refl, sym, ap, ◌∙◌}
use lib.Dec.{eqb}
use lib.ListN.{length, get_or}
use borrow.Author.Tests.{eqb-true, eqb-false, eq-eqb, ne_eqb}
use Rattle.std.specs.Prelude.{Some, Result, Ok, Err}
use Rattle.std.proofs.Math.Bool.{and-true}
use Rattle.refusals.specs.declared.Refusal.{Refusal}
use Rattle.refusals.specs.Table.{number_of}
use Rattle.refusals.proofs.Laws.{number-positive}
use Rattle.ledger_sheet.specs.Words.{row_words}
use Rattle.ledger_model.specs.Book.{fresh}
use Rattle.ledger_model.specs.Step.{Call, done, at_row, refused, answer_words, step}
use Rattle.ledger_model.proofs.Outcome.{outcome}
use Rattle.ledger_model.proofs.WellFormed.{well-formed, fresh-well-formed}
use Rattle.ledger_sheet.specs.Sheet.{sheet_size, right}
use Rattle.ledger_sheet.specs.Outcome.{Outcome}
use Rattle.octets.proofs.Laws.{Bytes}
use Rattle.ledger_layout.specs.Layout.{layout, book_of, call, on_sheet, fresh_on}
use Rattle.ledger_layout.proofs.Read.{read-law, book-fine}
use Rattle.ledger_layout.proofs.Right.{layout-right}
use Rattle.ledger_layout.proofs.Sheets.{on-layout}
use Rattle.ledger_replay.specs.Trace.{Line}
use Rattle.ledger_replay.specs.Replay.{CallAnswer}
use Rattle.ledger_replay.specs.Trace.{enrol_call, count, entry_at, line_at, call_in, answer_in, entries_from, entries_of}
use Rattle.ledger_replay.specs.Replay.{difference_words, call_answer, same_call_answer, differs, replay_from}
use Rattle.ledger_replay.specs.inner.Making.{made, written, IsLaid}

-- ---- what is written of an answer

answer-none : (t : Bool) (n : ℕ) → get_or (answer_words (cond t done (refused n))) 1 0 ≡ 0
answer-none true n = refl
answer-none false n = refl

pub written-other : (x : Line) → eqb x.call enrol_call ≡ false → (written x).row ≡ 0
unfolding written call_answer answer_in
written-other x e = rw e (answer-none (eqb x.answer 0) x.answer)

pub written-refused : (x : Line) → eqb x.answer 0 ≡ false → (written x).row ≡ 0
unfolding written call_answer answer_in
written-refused x e = rw e

pub written_row : (x : Line) → eqb x.call enrol_call ≡ true → eqb x.answer 0 ≡ true → (written x).row ≡ x.row
unfolding written call_answer answer_in
written_row x e z = rw (z, e)

pub written-number : (x : Line) → (written x).number ≡ x.answer
unfolding written call_answer answer_in
written-number x = at (eqb x.answer 0) (eqb x.call enrol_call) refl
  where
    at : (t u : Bool) → eqb x.answer 0 ≡ t → get_or (answer_words (cond t (cond u (at_row x.row) done) (refused x.answer))) 0 0 ≡ x.answer
    at true true z = sym (eqb-true x.answer 0 z)
    at true false z = sym (eqb-true x.answer 0 z)
    at false u z = refl

-- Whether what an accepted call answers, and what a refused one answers, is what is written.
pub same-accepted : (x : Line) (row at : ℕ) → (x.answer ≡ 0 → at ≡ (written x).row)
    → eqb x.answer 0 && eqb row at ≡ same_call_answer (call_answer (0 ∷ row ∷ [])) (written x)
unfolding same_call_answer call_answer
same-accepted x row at h = by (eqb x.answer 0) refl
  where
    by : (t : Bool) → eqb x.answer 0 ≡ t → eqb x.answer 0 && eqb row at ≡ eqb 0 (written x).number && eqb row (written x).row
    by true e =
        let z = eqb-true x.answer 0 e in
        let accepted : eqb 0 (written x).number ≡ true = eq-eqb 0 (written x).number (sym (written-number x ∙ z)) in
        rw (e, h z, accepted)
    by false e = rw (written-number x, e, ne_eqb 0 x.answer (λ z. eqb-false x.answer 0 e (sym z)))

pub same-refused : (x : Line) (q : ℕ) → (q ≡ 0 → ⊥) → eqb q x.answer ≡ same_call_answer (call_answer (q ∷ [])) (written x)
unfolding same_call_answer call_answer
same-refused x q p = by (eqb x.answer 0) refl
  where
    by : (t : Bool) → eqb x.answer 0 ≡ t → eqb q x.answer ≡ eqb q (written x).number && eqb 0 (written x).row
    by true e = let z = eqb-true x.answer 0 e in rw (written-number x, z, ne_eqb q 0 p)
    by false e = rw (written-number x, written-refused x e) (sym (and-true (eqb q x.answer)))

-- What differs is what is answered.
pub differs-is : (k : ℕ) (a : Result ℕ Refusal) → 0 ∷ difference_words (Some (record { entry = k; answer = a })) ≡ differs k (call_answer (row_words a))
unfolding call_answer
differs-is k (Ok row) = refl
differs-is k (Err r) = refl

-- ---- the loop

pub start : (t s : List ℕ) (n : ℕ) → n ≡ count t → replay_from 0 (entries_from t 0 (n - 0)) s ≡ replay_from 0 (entries_of t) s
unfolding entries_of
start t s n e = rw (sub-zero, e)

-- An entry whose call answers as written, and one whose call does not.
module _ (t s s' : List ℕ) (k n m : ℕ) (x : Line) (a : CallAnswer) (read : x ≡ line_at t (entry_at k)) (call-made : (a, s') ≡ made (call_in x) s)
    (one_more : n ≡ suc m) where
  pub same-on : same_call_answer a (written x) ≡ true → replay_from (k + 1) (entries_from t (k + 1) m) s' ≡ replay_from k (entries_from t k n) s
  unfolding replay_from entries_from made written
  same-on e = rw (one_more, ← read, ← ap (λ o. o.0) call-made, ← ap (λ o. o.1) call-made, e, add-one)

  pub differs-there : same_call_answer a (written x) ≡ false → (differs k a, s') ≡ replay_from k (entries_from t k n) s
  unfolding replay_from entries_from made written
  differs-there e = rw (one_more, ← read, ← ap (λ o. o.0) call-made, ← ap (λ o. o.1) call-made, e)

-- No entry is left.
pub all_same : (t s : List ℕ) (k n : ℕ) → n ≡ 0 → (0 ∷ [], s) ≡ replay_from k (entries_from t k n) s
unfolding replay_from entries_from
all_same t s k n e = rw e

-- ---- the sheet stays right

-- A slice of a sheet's length is made fresh.
pub never-refused : (s t : List ℕ) (why : Refusal) → length s ≡ sheet_size → (number_of why ∷ [], t) ≡ fresh_on s → ⊥
unfolding fresh_on
never-refused s t why l e =
    let made : ◌≡◌ {A = Outcome} (number_of why ∷ [], t) (0 ∷ [], layout fresh) = rw (eq-eqb (length s) sheet_size l) at e in
    number-positive why (ap (λ o. get_or o.0 0 0) made)

pub fresh-laid : (s t : List ℕ) (a : List ℕ) → length s ≡ sheet_size → (a, t) ≡ fresh_on s → IsLaid t
unfolding fresh_on
fresh-laid s t a l e =
    let made : ◌≡◌ {A = Outcome} (a, t) (0 ∷ [], layout fresh) = rw (eq-eqb (length s) sheet_size l) at e in
    record { book = fresh; fine = fresh-well-formed; laid_out = ap (λ o. o.1) made }

pub right-laid : (s : List ℕ) → Bytes s → right s ≡ true → IsLaid s
right-laid s bytes r = record { book = book_of s; fine = book-fine s bytes r; laid_out = sym (read-law s bytes r) }

pub laid-right : (s : List ℕ) → IsLaid s → right s ≡ true
laid-right s k = rw k.laid_out (layout-right k.book k.fine)

pub laid_next : (s s' : List ℕ) (c : Call) (a : CallAnswer) → IsLaid s → (a, s') ≡ made c s → IsLaid s'
unfolding made
laid_next s s' c a k e =
    let b = k.book in
    let left = ap (λ o. o.1) e in
    record {
      book = (step c b).book;
      fine = well-formed b k.fine (outcome c b);
      laid_out = left ∙ ap (λ t. (on_sheet (call c) t).1) k.laid_out ∙ ap (λ o. o.1) (on-layout (call c) b k.fine);
    }
