-- What demand 3 says about sheets: the answers of calls as answers of the model, and the bytes before the desks. Assumes nothing.
use Rattle.std.specs.Prelude.{ℕ, List, Option, Result, Ok, Err}
use Rattle.octets.specs.Octets.{part}
use Rattle.refusals.specs.Table.{number_of}
use Rattle.refusals.specs.Words.{no_words, one_word}
use Rattle.ledger_model.specs.Step.{Answer, gave, refused}
use Rattle.ledger_sheet.specs.Sheet.{desks_start}
use Rattle.refusals.specs.declared.Refusal.{Refusal}
use Rattle.ledger_sheet.specs.declared.Report.{Report}
use Rattle.ledger_sheet.specs.declared.Gap.{Gap}
use Rattle.ledger_sheet.specs.declared.Stream.{Stream}
use Rattle.ledger_sheet.specs.declared.Working.{Working}
use Rattle.ledger_sheet.specs.declared.Unsaved.{Unsaved}
use Rattle.ledger_sheet.specs.Words.{report_values, gap_values, stream_values, desk_values, unsaved_values}

-- The answers of calls as answers of the model: its values, or its refusal's number.
abbrev pub told_of : {A : Type 0} → (values : A → List ℕ) → Result A Refusal → Answer
told_of values (Ok x) = gave (values x)
told_of values (Err r) = refused (number_of r)

abbrev pub answer_of : Result (Unit {0}) Refusal → Answer
answer_of answer = told_of no_words answer

abbrev pub row_answer_of : Result ℕ Refusal → Answer
row_answer_of answer = told_of one_word answer

abbrev pub report_answer_of : Result Report Refusal → Answer
report_answer_of answer = told_of report_values answer

abbrev pub gap_answer_of : Result (Option Gap) Refusal → Answer
gap_answer_of answer = told_of gap_values answer

abbrev pub stream_answer_of : Result Stream Refusal → Answer
stream_answer_of answer = told_of stream_values answer

abbrev pub desk_answer_of : Result (Option Working) Refusal → Answer
desk_answer_of answer = told_of desk_values answer

abbrev pub unsaved_answer_of : Result Unsaved Refusal → Answer
unsaved_answer_of answer = told_of unsaved_values answer

-- The bytes before the desks: the header and the rows.
abbrev pub header_and_rows : List ℕ → List ℕ
header_and_rows s = part s 0 desks_start
