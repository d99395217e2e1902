-- What a replay says about a history (document 02, request 11). Assumes nothing.
-- The manual, docs/INTERFACE.md: "A night in a trace, played again".
use Rattle.std.specs.Prelude.{ℕ, ◌≤◌, ◌≡◌, true, List, [], ◌∷◌, map, length}
use Rattle.ledger_model.specs.Book.{fresh}
use Rattle.ledger_model.specs.Step.{Entry, call_of, run, book_after}
use Rattle.ledger_sheet.specs.Sheet.{sheet_size}
use Rattle.ledger_layout.specs.Layout.{layout}
use Rattle.ledger.specs.Private.{History}
use Rattle.ledger_replay.specs.Trace.{most_entries, is_trace, entries_of}
use Rattle.ledger_replay.specs.Record.{recorded, trace_of}
use Rattle.ledger_replay.specs.Replay.{replay_on}
use Rattle.ledger_replay.specs.Laws.{ReadsBack}

-- A history is any calls, made one after the other on a sheet that `fresh` made, each keeping its contract, with their answers; they leave the sheet
-- `last`. The trace of those that a trace keeps reads back. Replayed over any slice of a sheet's length, it answers "same" and leaves `last`, byte
-- for byte.
pub record PlaysAgain (log : List Entry) (last : List ℕ) : Type 0 where
  pub reads-back : ReadsBack (recorded log)
  pub same_sheet : (s : List ℕ) → length s ≡ sheet_size → replay_on (trace_of (recorded log)) s ≡ (0 ∷ [], last)

abbrev pub HistoryPlaysAgain : Type 0
HistoryPlaysAgain = (log : List Entry) (last : List ℕ) → History log last → length (recorded log) ≤ most_entries → PlaysAgain log last

-- If a replay of any trace answers "same", every answer in the trace is the model's, and the sheet is the layout of the model's book.
pub record AsModel (t s : List ℕ) : Type 0 where
  pub model_answers : (run fresh (map call_of (entries_of t))).log ≡ entries_of t
  pub model_sheet : (replay_on t s).1 ≡ layout (book_after (entries_of t))

abbrev pub SameIsModel : Type 0
SameIsModel = (t s : List ℕ) → (replay_on t s).0 ≡ 0 ∷ [] → AsModel t s

-- If every answer in a trace is the model's, its replay answers "same".
abbrev pub ModelIsSame : Type 0
ModelIsSame =
    (t s : List ℕ) → length s ≡ sheet_size → is_trace t ≡ true → (run fresh (map call_of (entries_of t))).log ≡ entries_of t
    → replay_on t s ≡ (0 ∷ [], layout (book_after (entries_of t)))
