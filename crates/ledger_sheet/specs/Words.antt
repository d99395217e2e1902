-- The words of each answer: 0 and the values, or the refusal's number. A value that is not there adds no word. Assumes nothing.
use Rattle.std.specs.Prelude.{ℕ, cond, List, [], ◌∷◌, Option, None, Some, Result}
use Rattle.refusals.specs.declared.Refusal.{Refusal}
use Rattle.refusals.specs.Words.{one_word, no_words, Different}
use Rattle.refusals.specs.Words as Refusals
use Rattle.ledger_sheet.specs.declared.Report.{Report}
use Rattle.ledger_sheet.specs.declared.Gaps.{Gaps}
use Rattle.ledger_sheet.specs.declared.Gap.{Gap}
use Rattle.ledger_sheet.specs.declared.Stream.{Stream}
use Rattle.ledger_sheet.specs.declared.Working.{Working}
use Rattle.ledger_sheet.specs.declared.Unsaved.{Unsaved}

abbrev pub answer_words : Result (Unit {0}) Refusal → List ℕ
answer_words answer = Refusals.answer_words no_words answer

-- Different answers have different words.
abbrev pub DifferentAnswers : Type 0
DifferentAnswers = Different answer_words

abbrev pub row_words : Result ℕ Refusal → List ℕ
row_words answer = Refusals.answer_words one_word answer

-- Different answers have different words.
abbrev pub DifferentRowAnswers : Type 0
DifferentRowAnswers = Different row_words

-- How many positions are missing and the lowest missing number; or 0.
abbrev pub gaps_values : Option Gaps → List ℕ
gaps_values None = 0 ∷ []
gaps_values (Some gaps) = gaps.missing ∷ gaps.lowest ∷ []

abbrev pub report_values : Report → List ℕ
report_values report = report.ticked ∷ gaps_values report.gaps

abbrev pub report_answer_words : Result Report Refusal → List ℕ
report_answer_words answer = Refusals.answer_words report_values answer

-- Different answers have different words.
abbrev pub DifferentReports : Type 0
DifferentReports = Different report_answer_words

abbrev pub gap_values : Option Gap → List ℕ
gap_values None = []
gap_values (Some gap) = gap.number ∷ gap.row ∷ []

abbrev pub gap_words : Result (Option Gap) Refusal → List ℕ
gap_words answer = Refusals.answer_words gap_values answer

-- Different answers have different words.
abbrev pub DifferentGaps : Type 0
DifferentGaps = Different gap_words

abbrev pub stream_values : Stream → List ℕ
stream_values stream = stream.key ∷ stream.first ∷ []

abbrev pub stream_words : Result Stream Refusal → List ℕ
stream_words answer = Refusals.answer_words stream_values answer

-- Different answers have different words.
abbrev pub DifferentStreams : Type 0
DifferentStreams = Different stream_words

-- The row, and 1 if a save would be stale, else 0. A closed desk has no values.
abbrev pub desk_values : Option Working → List ℕ
desk_values None = []
desk_values (Some desk) = desk.row ∷ cond desk.stale 1 0 ∷ []

abbrev pub desk_words : Result (Option Working) Refusal → List ℕ
desk_words answer = Refusals.answer_words desk_values answer

-- Different answers have different words.
abbrev pub DifferentDesks : Type 0
DifferentDesks = Different desk_words

abbrev pub unsaved_values : Unsaved → List ℕ
unsaved_values unsaved = unsaved.ticks ∷ unsaved.unticks ∷ []

abbrev pub unsaved_words : Result Unsaved Refusal → List ℕ
unsaved_words answer = Refusals.answer_words unsaved_values answer

-- Different answers have different words.
abbrev pub DifferentUnsaved : Type 0
DifferentUnsaved = Different unsaved_words
