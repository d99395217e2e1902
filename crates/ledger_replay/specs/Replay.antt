-- Document 02, request 11: the replay of a trace, over a fresh sheet or over a sheet as it is. Each call is `on_sheet (call c)`, as in the ledger's
-- contracts. Assumes nothing.
-- The manual, docs/INTERFACE.md: "A night in a trace, played again".
use Rattle.std.specs.Prelude.{ℕ, suc, Bool, cond, not, ◌&&◌, List, [], ◌∷◌, eqb, length, get_or, Option, Some, None, Result, Ok, Err}
use Rattle.refusals.specs.declared.Refusal.{Refusal}
use Rattle.refusals.specs.Table.{number_of}
use Rattle.refusals.specs.Words.{Different}
use Rattle.refusals.specs.Words as Refusals
use Rattle.refusals.specs.Judge.{◌when◌}
use Rattle.ledger_model.specs.Step.{answer_words, Entry, ◌⇒◌}
use Rattle.ledger_sheet.specs.Sheet.{sheet_size, right}
use Rattle.ledger_sheet.specs.Outcome.{Outcome, refused_or}
use Rattle.ledger_layout.specs.Layout.{call, on_sheet, fresh_on}
use Rattle.ledger_replay.specs.declared.Difference.{Difference}
use Rattle.ledger_replay.specs.Trace.{is_trace, entries_of}

-- What an entry's call answered: 0 and the row of an accepted enrolment, or 0 for another accepted call; or the refusal's number, and 0.
abbrev pub answered_words : Result ℕ Refusal → List ℕ
answered_words (Ok row) = 0 ∷ row ∷ []
answered_words (Err r) = number_of r ∷ 0 ∷ []

-- The words of an answer. If no entry differs, 0 alone.
abbrev pub difference_words : Option Difference → List ℕ
difference_words None = []
difference_words (Some d) = d.entry ∷ answered_words d.answer

abbrev pub replayed_words : Result (Option Difference) Refusal → List ℕ
replayed_words answer = Refusals.answer_words difference_words answer

-- Different answers have different words.
abbrev pub DifferentReplays : Type 0
DifferentReplays = Different replayed_words

-- What a replay compares of an answer: 0 or the refusal's number, and the row, which only enrol gives.
pub record CallAnswer : Type 0 where
  pub number : ℕ
  pub row : ℕ

unfoldable pub call_answer : List ℕ → CallAnswer
call_answer words = record { number = get_or words 0 0; row = get_or words 1 0 }

unfoldable pub same_call_answer : CallAnswer → CallAnswer → Bool
same_call_answer x y = eqb x.number y.number && eqb x.row y.row

-- The answer if entry k, counted from 0, is the first that differs: k, and what its call answered.
abbrev pub differs : ℕ → CallAnswer → List ℕ
differs k x = 0 ∷ k ∷ x.number ∷ x.row ∷ []

-- Makes the calls from entry k on, over the sheet s. Stops behind the first call that answers otherwise than the trace says, and leaves the sheet as
-- after that call.
unfoldable pub replay_from : (k : ℕ) → List Entry → List ℕ → Outcome
replay_from k [] s = (0 ∷ [], s)
replay_from k ((c ⇒ a) ∷ entries) s =
    let made = on_sheet (call c) s in
    cond (same_call_answer (call_answer made.0) (call_answer (answer_words a))) (replay_from (suc k) entries made.1) (differs k (call_answer made.0), made.1)

-- The replay of a trace over a sheet.
abbrev pub played : (t s : List ℕ) → Outcome
played t s = replay_from 0 (entries_of t) s

-- `replay`: 20 if the slice does not have a sheet's length, then 40 if t is no trace; both leave the slice unchanged. Else it makes the slice a fresh
-- sheet and replays the trace over it.
unfoldable pub replay_on : (t s : List ℕ) → Outcome
replay_on t s =
    refused_or ((20 when not (eqb (length s) sheet_size)) ∷ (40 when not (is_trace t)) ∷ []) (played t (fresh_on s).1) s

-- `replay_on`: 20 if the slice is no right sheet, then 40 if t is no trace; both leave the slice unchanged. Else it replays the trace over the sheet as it is.
unfoldable pub replay_on_sheet : (t s : List ℕ) → Outcome
replay_on_sheet t s = refused_or ((20 when not (right s)) ∷ (40 when not (is_trace t)) ∷ []) (played t s) s
