-- A log replayed in pieces: `replay` for the first piece, `replay_on` for each further one. Assumes nothing.
-- The manual, docs/INTERFACE.md: "A night in a trace, played again".
use Rattle.std.specs.Prelude.{ℕ, ◌+◌, ◌*◌, ◌≤◌, ◌≡◌, ◌↔◌, true, List, [], ◌∷◌, ◌++◌, map, length}
use Rattle.octets.specs.Octets.{part}
use Rattle.ledger_model.specs.Book.{fresh}
use Rattle.ledger_model.specs.Step.{Entry, call_of, run, book_after}
use Rattle.ledger_sheet.specs.Sheet.{sheet_size}
use Rattle.ledger_sheet.specs.Outcome.{Outcome}
use Rattle.ledger_layout.specs.Layout.{layout}
use Rattle.ledger_replay.specs.Trace.{header_size, entry_size, most_entries, count, is_trace, entries_of}
use Rattle.ledger_replay.specs.Record.{trace_header}
use Rattle.ledger_replay.specs.Replay.{replay_on, replay_on_sheet}

-- ---- two traces joined

-- An answer whose entry number is n higher.
unfoldable pub counted_from : (n : ℕ) → List ℕ → List ℕ
counted_from n [] = []
counted_from n (number ∷ []) = number ∷ []
counted_from n (number ∷ entry ∷ more) = number ∷ (n + entry) ∷ more

abbrev pub shifted : (n : ℕ) → Outcome → Outcome
shifted n o = (counted_from n o.0, o.1)

-- `whole` is a trace with the entries of the first trace, and then those of the second.
pub record Joins (first second whole : List ℕ) : Type 0 where
  pub second_trace : is_trace second ≡ true
  pub whole_trace : is_trace whole ≡ true
  pub all_entries : entries_of whole ≡ entries_of first ++ entries_of second

-- The bytes of a trace's entries; and two traces joined: one header, the entries of the first, the entries of the second.
abbrev pub entry_bytes : List ℕ → List ℕ
entry_bytes t = part t header_size (entry_size * count t)

unfoldable pub joined : (first second : List ℕ) → List ℕ
joined first second = trace_header (count first + count second) ++ (entry_bytes first ++ entry_bytes second)

-- Two traces joined are such a trace, if they have at most 4,000 entries together.
abbrev pub JoinedIsTrace : Type 0
JoinedIsTrace = (first second : List ℕ) → is_trace first ≡ true → is_trace second ≡ true → count first + count second ≤ most_entries
    → Joins first second (joined first second)

-- If the replay of the first answers "same", the replay of the whole is that of the second over the sheet that the first leaves, with its entry
-- numbers shifted.
abbrev pub JoinedReplay : Type 0
JoinedReplay = (first second whole s : List ℕ) → Joins first second whole → (replay_on first s).0 ≡ 0 ∷ []
    → replay_on whole s ≡ shifted (count first) (replay_on_sheet second (replay_on first s).1)

-- ---- a log of any length

-- The log in the pieces, one after the other.
unfoldable pub log_of : (pieces : List (List ℕ)) → List Entry
log_of [] = []
log_of (t ∷ pieces) = entries_of t ++ log_of pieces

unfoldable pub AllTraces : (pieces : List (List ℕ)) → Type 0
AllTraces [] = Unit {0}
AllTraces (t ∷ pieces) = (is_trace t ≡ true) × AllTraces pieces

-- Further pieces, each replayed over the sheet that the one before leaves. All answer "same", and the last leaves the sheet `last`.
pub data GoOn : (s : List ℕ) → (pieces : List (List ℕ)) → (last : List ℕ) → Type 0 where
  finish : {s : List ℕ} → GoOn s [] s
  piece : {s next last t : List ℕ} {pieces : List (List ℕ)} → replay_on_sheet t s ≡ (0 ∷ [], next) → GoOn next pieces last → GoOn s (t ∷ pieces) last

-- The first piece is replayed over the slice s, which `replay` makes fresh.
pub record AllSame (s first : List ℕ) (pieces : List (List ℕ)) (last : List ℕ) : Type 0 where
  pub after_first : List ℕ
  pub first-same : replay_on first s ≡ (0 ∷ [], after_first)
  pub others_same : GoOn after_first pieces last

-- Every answer in the log is the model's, and `last` is the sheet that the log's calls leave.
pub record IsModels (log : List Entry) (last : List ℕ) : Type 0 where
  pub model_answers : (run fresh (map call_of log)).log ≡ log
  pub model_sheet : last ≡ layout (book_after log)

-- An audit: all pieces answer "same" exactly if every answer in the log is the model's; and then they leave the sheet that its calls leave.
abbrev pub AuditInPieces : Type 0
AuditInPieces = (s first : List ℕ) (pieces : List (List ℕ)) (last : List ℕ) → length s ≡ sheet_size → AllTraces (first ∷ pieces)
    → AllSame s first pieces last ↔ IsModels (log_of (first ∷ pieces)) last
