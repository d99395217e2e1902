-- Demand 3 for the ledger's calls: one claim about any list of calls. They start on a sheet that `fresh` made, and each works on the sheet as the
-- call before left it. The claim uses only what the calls' contracts promise. Assumes nothing.
-- The manual, docs/INTERFACE.md: "Calls on the ledger".
use Rattle.std.specs.Prelude.{ℕ, ◌≡◌, List, map, Option, Result, Ok}
use Rattle.refusals.specs.declared.Refusal.{Refusal}
use Rattle.ledger_model.specs.Step.{Find, RowReport, FirstGap, RowStream, DeskState, Unsaved}
use Rattle.ledger_model.specs.Step.{Call, Enrol, Ask, Open, Tick, Untick, Save, Drop, Strike, Answer, Entry, call_of}
use Rattle.ledger_model.specs.History.{serial}
use Rattle.ledger_model.specs.Chain.{Chain}
use Rattle.ledger_model.specs.Claim.{Claim}
use Rattle.ledger_sheet.specs.Words.{answer_words, row_words, report_answer_words, gap_words, stream_words, desk_words, unsaved_words}
use Rattle.ledger_sheet.specs.declared.Report.{Report}
use Rattle.ledger_sheet.specs.declared.Gap.{Gap}
use Rattle.ledger_sheet.specs.declared.Stream.{Stream}
use Rattle.ledger_sheet.specs.declared.Working.{Working}
use Rattle.ledger_sheet.specs.declared.Unsaved as Sheet
use Rattle.ledger_layout.specs.Layout.{layout, call, on_sheet, fresh_on}
use Rattle.ledger_layout.specs.Demand3.{answer_of, row_answer_of, report_answer_of, gap_answer_of, stream_answer_of, desk_answer_of, unsaved_answer_of}
use Rattle.ledger_layout.specs.Demand3.{header_and_rows}

-- What `fresh` promises if it answers done: on the slice s it leaves the sheet `start`.
abbrev pub MadeFresh : (s start : List ℕ) → Type 0
MadeFresh s start = (answer_words (Ok tt), start) ≡ fresh_on s

-- What each call's contract promises: on the sheet s it answers r and leaves t. One line for each call, with the equation of its `ensures`.
pub data Promised : Call → List ℕ → Answer → List ℕ → Type 0 where
  enrolled : {s t : List ℕ} {key first : ℕ} (r : Result ℕ Refusal) → (row_words r, t) ≡ on_sheet (call (Enrol key first)) s
      → Promised (Enrol key first) s (row_answer_of r) t
  found : {s : List ℕ} {key : ℕ} (r : Result ℕ Refusal) → (row_words r, s) ≡ on_sheet (call (Ask (Find key))) s
      → Promised (Ask (Find key)) s (row_answer_of r) s
  reported : {s : List ℕ} {row : ℕ} (r : Result Report Refusal) → (report_answer_words r, s) ≡ on_sheet (call (Ask (RowReport row))) s
      → Promised (Ask (RowReport row)) s (report_answer_of r) s
  gapped : {s : List ℕ} (r : Result (Option Gap) Refusal) → (gap_words r, s) ≡ on_sheet (call (Ask FirstGap)) s → Promised (Ask FirstGap) s (gap_answer_of r) s
  row_told : {s : List ℕ} {row : ℕ} (r : Result Stream Refusal) → (stream_words r, s) ≡ on_sheet (call (Ask (RowStream row))) s
      → Promised (Ask (RowStream row)) s (stream_answer_of r) s
  desk_told : {s : List ℕ} {desk : ℕ} (r : Result (Option Working) Refusal) → (desk_words r, s) ≡ on_sheet (call (Ask (DeskState desk))) s
      → Promised (Ask (DeskState desk)) s (desk_answer_of r) s
  unsaved_told : {s : List ℕ} {desk : ℕ} (r : Result Sheet.Unsaved Refusal) → (unsaved_words r, s) ≡ on_sheet (call (Ask (Unsaved desk))) s
      → Promised (Ask (Unsaved desk)) s (unsaved_answer_of r) s
  opened : {s t : List ℕ} {desk row : ℕ} (r : Result (Unit {0}) Refusal) → (answer_words r, t) ≡ on_sheet (call (Open desk row)) s
      → Promised (Open desk row) s (answer_of r) t
  ticked : {s t : List ℕ} {desk number : ℕ} (r : Result (Unit {0}) Refusal) → (answer_words r, t) ≡ on_sheet (call (Tick desk number)) s
      → Promised (Tick desk number) s (answer_of r) t
  unticked : {s t : List ℕ} {desk number : ℕ} (r : Result (Unit {0}) Refusal) → (answer_words r, t) ≡ on_sheet (call (Untick desk number)) s
      → Promised (Untick desk number) s (answer_of r) t
  saved : {s t : List ℕ} {desk : ℕ} (r : Result (Unit {0}) Refusal) → (answer_words r, t) ≡ on_sheet (call (Save desk)) s → Promised (Save desk) s (answer_of r) t
  dropped : {s t : List ℕ} {desk : ℕ} (r : Result (Unit {0}) Refusal) → (answer_words r, t) ≡ on_sheet (call (Drop desk)) s → Promised (Drop desk) s (answer_of r) t
  struck : {s t : List ℕ} {row : ℕ} (r : Result (Unit {0}) Refusal) → (answer_words r, t) ≡ on_sheet (call (Strike row)) s → Promised (Strike row) s (answer_of r) t

-- `log` is the calls with their answers, from the sheet `start` that `fresh` made to the sheet `last`. Every call of the ledger may be in the list:
-- strikes, row reports, first gaps and questions too.
pub record Demand3 (start : List ℕ) (log : List Entry) (last : List ℕ) : Type 0 where
  -- All answers are the model's, and the last sheet is the layout of the model's book, byte for byte. Every entry of the serial history is an entry
  -- of the log; the history has the log's accepted enrolments, strikes and saves in their order; its calls, made on a fresh sheet, get the log's
  -- answers. A save by a desk that has a row open is refused with 31 exactly if the row's set is not the opened one, and then another desk has saved
  -- the row since. A row that a desk has open cannot be struck. It keeps the key and first number it had when opened (`AsOpened`), so no desk saves
  -- into another stream's row.
  pub claim : Claim Promised layout log last
  -- The header and the rows are those that the serial history leaves on a fresh sheet, byte for byte.
  pub serial_rows : (again : List Entry) (end : List ℕ) → Chain Promised start again end → map call_of again ≡ map call_of (serial log)
      → header_and_rows end ≡ header_and_rows last

-- This holds of every list of calls on a sheet that `fresh` made from any slice.
abbrev pub EveryDemand3 : Type 0
EveryDemand3 = (s start last : List ℕ) (log : List Entry) → MadeFresh s start → Chain Promised start log last → Demand3 start log last
