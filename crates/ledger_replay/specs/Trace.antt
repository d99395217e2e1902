-- Document 02, request 11: the bytes of a trace, when a list of bytes is a trace, and its entries as calls of the model with their answers. Assumes nothing.
-- The manual, docs/INTERFACE.md: "A night in a trace, played again".
use Rattle.std.specs.Prelude.{ℕ, zero, suc, ◌+◌, ◌*◌, Bool, cond, ◌&&◌, ◌||◌, List, [], ◌∷◌, eqb, leb, length, get_or}
use Rattle.octets.specs.Octets.{number_at, all}
use Rattle.ledger_model.specs.Step.{Call, Enrol, Open, Tick, Untick, Save, Drop, Strike, Answer, done, at_row, refused, Entry, ◌⇒◌}

-- ---- sizes and offsets

-- The header is three numbers of 4 bytes: the trace's length, how many entries it has, where they begin.
abbrev pub number_size : ℕ
number_size = 4

abbrev pub length_at : ℕ
length_at = 0

abbrev pub count_at : ℕ
count_at = 4

abbrev pub start_at : ℕ
start_at = 8

abbrev pub header_size : ℕ
header_size = 12

-- How many entries a trace has at most.
abbrev pub most_entries : ℕ
most_entries = 4000

-- An entry is 16 bytes: call, desk, row, answer number, record number (4), key (8).
abbrev pub desk_at : ℕ
desk_at = 1

abbrev pub row_at : ℕ
row_at = 2

abbrev pub answer_at : ℕ
answer_at = 3

abbrev pub record_at : ℕ
record_at = 4

abbrev pub key_at : ℕ
key_at = 8

abbrev pub key_size : ℕ
key_size = 8

abbrev pub entry_size : ℕ
entry_size = 16

-- The numbers of the calls.
abbrev pub enrol_call : ℕ
enrol_call = 1

abbrev pub open_call : ℕ
open_call = 2

abbrev pub tick_call : ℕ
tick_call = 3

abbrev pub untick_call : ℕ
untick_call = 4

abbrev pub save_call : ℕ
save_call = 5

abbrev pub drop_call : ℕ
drop_call = 6

abbrev pub strike_call : ℕ
strike_call = 7

-- ---- the values there

abbrev pub header_number : List ℕ → ℕ → ℕ
header_number t a = number_at t a number_size

abbrev pub count : List ℕ → ℕ
count t = header_number t count_at

abbrev pub entry_at : ℕ → ℕ
entry_at k = header_size + entry_size * k

-- The fields of an entry, as numbers.
pub record Line : Type 0 where
  pub call : ℕ
  pub desk : ℕ
  pub row : ℕ
  pub answer : ℕ
  pub number : ℕ
  pub key : ℕ

-- The fields of the entry at offset a.
unfoldable pub line_at : List ℕ → ℕ → Line
line_at t a =
    record {
      call = get_or t a 0;
      desk = get_or t (a + desk_at) 0;
      row = get_or t (a + row_at) 0;
      answer = get_or t (a + answer_at) 0;
      number = number_at t (a + record_at) number_size;
      key = number_at t (a + key_at) key_size;
    }

-- ---- a trace: one definition for each clause

-- The header is right: the trace's length, which fits its count of entries; that count, at most 4,000; where the entries begin.
unfoldable pub header_right : List ℕ → Bool
header_right t =
    eqb (header_number t length_at) (length t) && leb (count t) most_entries && eqb (length t) (entry_at (count t))
    && eqb (header_number t start_at) header_size

-- The call is one of the seven.
unfoldable pub is_call : Line → Bool
is_call x = leb enrol_call x.call && leb x.call strike_call

-- A field that a call does not use is zero. The desk: only calls 2 to 6, open to drop, use it.
unfoldable pub desk_right : Line → Bool
desk_right x = eqb x.desk 0 || (leb open_call x.call && leb x.call drop_call)

-- The row: only open, strike and an accepted enrolment use it.
unfoldable pub row_right : Line → Bool
row_right x = eqb x.row 0 || eqb x.call open_call || eqb x.call strike_call || (eqb x.call enrol_call && eqb x.answer 0)

-- The record number: only enrol, tick and untick use it.
unfoldable pub number_right : Line → Bool
number_right x = eqb x.number 0 || eqb x.call enrol_call || eqb x.call tick_call || eqb x.call untick_call

-- The key: only enrol uses it.
unfoldable pub key_right : Line → Bool
key_right x = eqb x.key 0 || eqb x.call enrol_call

unfoldable pub line_right : Line → Bool
line_right x = is_call x && desk_right x && row_right x && number_right x && key_right x

unfoldable pub lines_right : List ℕ → Bool
lines_right t = all (count t) (λ k. line_right (line_at t (entry_at k)))

unfoldable pub is_trace : List ℕ → Bool
is_trace t = leb header_size (length t) && header_right t && lines_right t

-- ---- the entries of a trace

-- The call of an entry. An enrolment has its first number in the field of the record number.
unfoldable pub call_in : Line → Call
call_in x =
    cond (eqb x.call enrol_call) (Enrol x.key x.number)
    (cond (eqb x.call open_call) (Open x.desk x.row)
    (cond (eqb x.call tick_call) (Tick x.desk x.number)
    (cond (eqb x.call untick_call) (Untick x.desk x.number)
    (cond (eqb x.call save_call) (Save x.desk)
    (cond (eqb x.call drop_call) (Drop x.desk) (Strike x.row))))))

-- The answer of an entry. 0 is an accepted call, for an enrolment with its row; any other number is a refusal's.
unfoldable pub answer_in : Line → Answer
answer_in x = cond (eqb x.answer 0) (cond (eqb x.call enrol_call) (at_row x.row) done) (refused x.answer)

abbrev pub entry_in : Line → Entry
entry_in x = call_in x ⇒ answer_in x

-- n entries from entry k on; all entries of a trace.
unfoldable pub entries_from : List ℕ → (k n : ℕ) → List Entry
entries_from t k zero = []
entries_from t k (suc n) = entry_in (line_at t (entry_at k)) ∷ entries_from t (suc k) n

unfoldable pub entries_of : List ℕ → List Entry
entries_of t = entries_from t 0 (count t)
