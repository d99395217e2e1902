-- What holds of traces (document 02, request 11). Assumes nothing.
use Rattle.std.specs.Prelude.{ℕ, ◌<◌, ◌≤◌, ◌≡◌, Bool, true, false, not, ◌&&◌, List, [], ◌∷◌, eqb, length, get_or}
use Rattle.ledger_model.specs.Step.{Call, Enrol, Ask, Open, Mark, Save, Drop, Strike, Answer, gave, refused, Entry, ◌⇒◌}
use Rattle.ledger_replay.specs.Trace.{most_entries, is_trace, entries_of}
use Rattle.ledger_replay.specs.Record.{is_byte, is_kept, trace_of}

-- The answers that an entry can have: a refusal; a row, for an accepted enrolment; nothing, for any other accepted call.
abbrev pub is_refusal : ℕ → Bool
is_refusal number = not (eqb number 0) && is_byte number

unfoldable pub row_fits : Answer → Bool
row_fits (gave []) = false
row_fits (gave (r ∷ [])) = is_byte r
row_fits (gave (r ∷ q ∷ words)) = false
row_fits (refused number) = is_refusal number

unfoldable pub nothing_fits : Answer → Bool
nothing_fits (gave []) = true
nothing_fits (gave (r ∷ words)) = false
nothing_fits (refused number) = is_refusal number

unfoldable pub answer_fits : Call → Answer → Bool
answer_fits (Enrol key first) a = row_fits a
answer_fits (Ask q) a = false
answer_fits (Open d r) a = nothing_fits a
answer_fits (Mark flag d n) a = nothing_fits a
answer_fits (Save d) a = nothing_fits a
answer_fits (Drop d) a = nothing_fits a
answer_fits (Strike r) a = nothing_fits a

abbrev pub fits : Entry → Bool
fits (c ⇒ a) = is_kept c && answer_fits c a

unfoldable pub all_fit : List Entry → Bool
all_fit [] = true
all_fit (e ∷ log) = fits e && all_fit log

-- The trace of a log consists of bytes, is a trace, and reads back as that log.
pub record ReadsBack (log : List Entry) : Type 0 where
  pub all_bytes : (i : ℕ) → get_or (trace_of log) i 0 < 256
  pub is-trace : is_trace (trace_of log) ≡ true
  pub same_log : entries_of (trace_of log) ≡ log

abbrev pub WrittenReadsBack : Type 0
WrittenReadsBack = (log : List Entry) → length log ≤ most_entries → all_fit log ≡ true → ReadsBack log
