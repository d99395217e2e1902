-- Document 02, request 11: the trace of a log of calls. Assumes nothing.
use Rattle.std.specs.Prelude.{ℕ, ◌^◌, Bool, true, false, ◌&&◌, List, [], ◌∷◌, ◌++◌, ltb, length, get_or}
use Rattle.octets.specs.Octets.{bytes_of}
use Rattle.ledger_model.specs.Lists.{filtered}
use Rattle.ledger_model.specs.Step.{Call, Enrol, Ask, Open, Mark, Save, Drop, Strike, Answer, gave, refused, Entry, ◌⇒◌, call_of}
use Rattle.octets.specs.Lists.{laid}
use Rattle.ledger_replay.specs.Trace.{Line}
use Rattle.ledger_replay.specs.Trace.{number_size, header_size, key_size, entry_at, enrol_call, open_call, tick_call, untick_call, save_call, drop_call}
use Rattle.ledger_replay.specs.Trace.{strike_call}

-- ---- the calls that a trace keeps

-- The numbers that fit a byte, a record number and a key.
abbrev pub is_byte : ℕ → Bool
is_byte n = ltb n 256

abbrev pub is_record_number : ℕ → Bool
is_record_number n = ltb n (256 ^ number_size)

abbrev pub is_key_number : ℕ → Bool
is_key_number k = ltb k (256 ^ key_size)

-- A trace does not keep calls whose desk or row does not fit a byte; all of these are refused. It keeps no questions. Every key and record number
-- that a caller can pass fits.
unfoldable pub is_kept : Call → Bool
is_kept (Enrol key first) = is_key_number key && is_record_number first
is_kept (Ask q) = false
is_kept (Open d r) = is_byte d && is_byte r
is_kept (Mark flag d n) = is_byte d && is_record_number n
is_kept (Save d) = is_byte d
is_kept (Drop d) = is_byte d
is_kept (Strike r) = is_byte r

abbrev pub recorded : List Entry → List Entry
recorded log = filtered (λ e. is_kept (call_of e)) log

-- ---- the bytes

-- The answer's number: 0 for an accepted call, else the refusal's. And the row that enrol answered; 0 for a refused enrolment.
abbrev pub answer_number : Answer → ℕ
answer_number (gave words) = 0
answer_number (refused number) = number

abbrev pub answered_row : Answer → ℕ
answered_row (gave words) = get_or words 0 0
answered_row (refused number) = 0

abbrev pub mark_call : Bool → ℕ
mark_call true = tick_call
mark_call false = untick_call

abbrev pub line : (call desk row : ℕ) → Answer → (number key : ℕ) → Line
line c d r a n k = record { call = c; desk = d; row = r; answer = answer_number a; number = n; key = k }

unfoldable pub line_of : Entry → Line
line_of (Enrol key first ⇒ a) = line enrol_call 0 (answered_row a) a first key
line_of (Ask q ⇒ a) = line 0 0 0 a 0 0
line_of (Open d r ⇒ a) = line open_call d r a 0 0
line_of (Mark flag d n ⇒ a) = line (mark_call flag) d 0 a n 0
line_of (Save d ⇒ a) = line save_call d 0 a 0 0
line_of (Drop d ⇒ a) = line drop_call d 0 a 0 0
line_of (Strike r ⇒ a) = line strike_call 0 r a 0 0

unfoldable pub line_bytes : Line → List ℕ
line_bytes x = (x.call ∷ x.desk ∷ x.row ∷ x.answer ∷ []) ++ bytes_of number_size x.number ++ bytes_of key_size x.key

unfoldable pub trace_header : ℕ → List ℕ
trace_header n = bytes_of number_size (entry_at n) ++ bytes_of number_size n ++ bytes_of number_size header_size

unfoldable pub trace_of : List Entry → List ℕ
trace_of log = trace_header (length log) ++ laid (λ e. line_bytes (line_of e)) log
