-- Document 01, "Calls on records": the words of the answers, what stands at a place of a stream, and the step. Assumes nothing.
-- The manual, docs/INTERFACE.md: "Streams".
use Rattle.std.specs.Prelude.{◌≡◌, ℕ, Option, Some, None, Result, Ok, Err, ◌+◌, Bool, cond, List, [], ◌∷◌, length, drop, eqb, leb}
use Rattle.refusals.specs.Judge.{Rule, judge, none_applies}
use Rattle.sfdu.specs.Read.{values_of, fault_words, record_length, read_rules, in_stream, read_one}
use Rattle.sfdu.specs.declared.Record.{Record}
use Rattle.sfdu.specs.declared.Fault.{Fault}
use Rattle.sfdu_stream.specs.declared.Step.{Step}
use Rattle.sfdu_stream.specs.declared.Walked.{Walked}

-- ---- the words of the answers

-- What a step finds: 0 and the record, or nothing for "done", or the refusal, as read one gives them.
abbrev pub found_words : Result (Option Record) Fault → List ℕ
found_words (Ok (Some r)) = 0 ∷ values_of r
found_words (Ok None) = []
found_words (Err f) = fault_words f

-- The words of a step: the place of the cursor that it gives back; then those of what it finds.
abbrev pub step_words : Step → List ℕ
step_words t = t.next.at ∷ found_words t.found

-- Different answers have different words.
abbrev pub DifferentSteps : Type 0
DifferentSteps = (a b : Step) → step_words a ≡ step_words b → a ≡ b

-- The stop number and its second number: 0 and 0 at the stream's end, else the refusal's.
abbrev pub at_end : List ℕ
at_end = 0 ∷ 0 ∷ []

abbrev pub stop_words : Result (Unit {0}) Fault → List ℕ
stop_words (Ok end) = at_end
stop_words (Err f) = fault_words f

-- The answer of a walk or a list: how many records, the stop place, the stop number and its second number.
abbrev pub words_of : Walked → List ℕ
words_of w = w.count ∷ w.place ∷ stop_words w.stop

-- Different answers have different words.
abbrev pub DifferentWalks : Type 0
DifferentWalks = (a b : Walked) → words_of a ≡ words_of b → a ≡ b

-- ---- what stands at a place of a stream, by the rules of a record; s is the stream from that place on

-- The rules of read one, or those of a program that refuses more.
abbrev pub Rules : Type 0
Rules = List ℕ → List (Rule (List ℕ))

-- A whole record: no rule holds.
unfoldable pub whole_by : Rules → List ℕ → Bool
whole_by rules s = none_applies (rules s)

-- The stop number of a list that is full.
abbrev pub full : List ℕ
full = 16 ∷ 0 ∷ []

-- Why a walk or a list stops at this place: the stream's end, or the refusal of the record; if the record is whole, the list is full.
unfoldable pub refusal_by : Rules → (place : ℕ) → List ℕ → List ℕ
refusal_by rules place s = cond (eqb (length s) 0) at_end (judge (in_stream place) (rules s) full)

-- ---- the same at index `at` of the stream s, by the rules of read one

unfoldable pub whole : List ℕ → ℕ → Bool
whole s at = whole_by read_rules (drop at s)

-- The place behind the whole record at this place.
unfoldable pub past : List ℕ → ℕ → ℕ
past s at = at + record_length (drop at s)

-- ---- the step

-- A step moves the cursor past a whole record. At a record that is not whole it answers the refusal and leaves the cursor. At the stream's end, or
-- behind it, it answers "done" and leaves the cursor.
unfoldable pub step : List ℕ → (at : ℕ) → List ℕ
step s at = cond (whole s at) (past s at) at ∷ cond (leb (length s) at) [] (read_one (drop at s))
