-- The model of the ledger, document 01's "plain book": what each call answers and what it changes. The model has no bytes, so no call on it is
-- refused with 20. Assumes nothing.
-- The manual, docs/INTERFACE.md: "Calls on the ledger".
use Rattle.std.specs.Prelude.{ℕ, Bool, true, false, cond, not, List, [], ◌∷◌, map, ◌==◌, slice_set}
use Rattle.std.specs.Bool.{beq}
use Rattle.refusals.specs.Judge.{Rule, ◌when◌, verdict}
use Rattle.keys.specs.Key.{valid_key}
use Rattle.keys.specs.Numbers.{is_number}
use Rattle.ledger_model.specs.Positions.{no_ticks, has, same, in_row}
use Rattle.ledger_model.specs.Book.{free, row, closed, working, Book, fresh, place, desk, put_place}
use Rattle.ledger_model.specs.Book.{put_desk, is_free, ticks_of, with_ticks, is_desk, is_open, place_of, opened_of, worked_of}
use Rattle.ledger_model.specs.Book.{with_worked, open_place, has_key, place_with, all_used, lowest_free, any_has_open, position_at}
use Rattle.ledger_model.specs.Counts.{place_report, first_gap_from, place_stream, desk_state, desk_unsaved}

-- ---- calls and answers

-- A question reads the book and changes nothing.
pub data Question : Type 0 where
  Find : (key : ℕ) → Question
  RowReport : (r : ℕ) → Question
  FirstGap : Question
  RowStream : (r : ℕ) → Question
  DeskState Unsaved : (d : ℕ) → Question

-- A mark is a tick (flag true) or an untick (flag false).
pub data Call : Type 0 where
  Enrol : (key first : ℕ) → Call
  Ask : Question → Call
  Open : (d r : ℕ) → Call
  Mark : (flag : Bool) (d n : ℕ) → Call
  Save Drop : (d : ℕ) → Call
  Strike : (r : ℕ) → Call

abbrev pub Tick : (d n : ℕ) → Call
Tick d n = Mark true d n

abbrev pub Untick : (d n : ℕ) → Call
Untick d n = Mark false d n

-- An accepted call gives words; a refused one has the table's number.
pub data Answer : Type 0 where
  gave : (words : List ℕ) → Answer
  refused : (number : ℕ) → Answer

-- Most calls give no words; enrol and find give the row.
abbrev pub done : Answer
done = gave []

abbrev pub at_row : (r : ℕ) → Answer
at_row r = gave (r ∷ [])

abbrev pub accepted : Answer → Bool
accepted (gave words) = true
accepted (refused number) = false

-- The words of an answer: 0 and what the call gives, or the refusal's number alone.
abbrev pub answer_words : Answer → List ℕ
answer_words (gave words) = 0 ∷ words
answer_words (refused number) = number ∷ []

pub record Reply : Type 0 where
  pub answer : Answer
  pub book : Book

abbrev pub reply : Answer → Book → Reply
reply a b = record { answer = a; book = b }

-- ---- a call on a book

-- 29 for a tick of a position that is ticked, 30 for an untick of one that is not.
abbrev pub already_so : Bool → ℕ
already_so true = 29
already_so false = 30

-- The refusals of each call, in the order of the table.
unfoldable pub refusals : Call → Book → List (Rule ℕ)
refusals (Enrol key first) b =
    (22 when not (valid_key key))
    ∷ (32 when not (is_number key first))
    ∷ (23 when has_key key b.places)
    ∷ (24 when all_used b.places)
    ∷ []
refusals (Ask (Find key)) b = (22 when not (valid_key key)) ∷ (25 when not (has_key key b.places)) ∷ []
refusals (Ask (RowReport r)) b = (25 when is_free (place b r)) ∷ []
refusals (Ask FirstGap) b = []
refusals (Ask (RowStream r)) b = (25 when is_free (place b r)) ∷ []
refusals (Ask (DeskState d)) b = (21 when not (is_desk d)) ∷ []
refusals (Ask (Unsaved d)) b = (21 when not (is_desk d)) ∷ (27 when not (is_open (desk b d))) ∷ []
refusals (Open d r) b = (21 when not (is_desk d)) ∷ (25 when is_free (place b r)) ∷ (26 when is_open (desk b d)) ∷ []
refusals (Mark flag d n) b =
    (21 when not (is_desk d))
    ∷ (27 when not (is_open (desk b d)))
    ∷ (28 when not (in_row (position_at (open_place b d) n)))
    ∷ (already_so flag when beq (has (worked_of (desk b d)) (position_at (open_place b d) n)) flag)
    ∷ []
refusals (Save d) b =
    (21 when not (is_desk d))
    ∷ (27 when not (is_open (desk b d)))
    ∷ (31 when not (same (ticks_of (open_place b d)) (opened_of (desk b d))))
    ∷ []
refusals (Drop d) b = (21 when not (is_desk d)) ∷ (27 when not (is_open (desk b d))) ∷ []
refusals (Strike r) b = (25 when is_free (place b r)) ∷ (36 when any_has_open r b.desks) ∷ []

-- The words that a question gives.
unfoldable pub asked : Question → Book → List ℕ
asked (Find key) b = place_with key b.places ∷ []
asked (RowReport r) b = place_report (place b r)
asked FirstGap b = first_gap_from 0 b.places
asked (RowStream r) b = place_stream (place b r)
asked (DeskState d) b = desk_state b.places (desk b d)
asked (Unsaved d) b = desk_unsaved (desk b d)

-- What each call answers and changes if it is accepted.
unfoldable pub effect : Call → Book → Reply
effect (Enrol key first) b =
    reply (at_row (lowest_free b.places)) (put_place (lowest_free b.places) (row key first no_ticks) b)
effect (Ask q) b = reply (gave (asked q b)) b
effect (Open d r) b = reply done (put_desk d (working r (ticks_of (place b r)) (ticks_of (place b r))) b)
effect (Mark flag d n) b =
    reply done (put_desk d (with_worked (slice_set (worked_of (desk b d)) (position_at (open_place b d) n) flag) (desk b d)) b)
effect (Save d) b =
    reply done (put_desk d closed (put_place (place_of (desk b d)) (with_ticks (worked_of (desk b d)) (open_place b d)) b))
effect (Drop d) b = reply done (put_desk d closed b)
effect (Strike r) b = reply done (put_place r free b)

-- A refusal leaves the book unchanged, except that 31 closes the desk.
unfoldable pub after_refusal : ℕ → Call → Book → Book
after_refusal number (Enrol key first) b = b
after_refusal number (Ask q) b = b
after_refusal number (Open d r) b = b
after_refusal number (Mark flag d n) b = b
after_refusal number (Save d) b = cond (number == 31) (put_desk d closed b) b
after_refusal number (Drop d) b = b
after_refusal number (Strike r) b = b

abbrev pub reply_given : (number : ℕ) → Call → Book → Reply
reply_given number c b = cond (number == 0) (effect c b) (reply (refused number) (after_refusal number c b))

unfoldable pub step : Call → Book → Reply
step c b = reply_given (verdict (refusals c b)) c b

-- ---- a list of calls

-- A call and its answer.
infix 40 ◌⇒◌
pub data Entry : Type 0 where
  ◌⇒◌ : Call → Answer → Entry

abbrev pub call_of : Entry → Call
call_of (c ⇒ a) = c

-- The log, which is each call with its answer, in order; and the book at the end.
pub record Run : Type 0 where
  pub log : List Entry
  pub book : Book

unfoldable pub run : Book → List Call → Run
run b [] = record { log = []; book = b }
run b (c ∷ cs) =
    let s = step c b in
    let rest = run s.book cs in
    record { log = (c ⇒ s.answer) ∷ rest.log; book = rest.book }

-- The book after the calls of a log.
abbrev pub book_after : List Entry → Book
book_after log = (run fresh (map call_of log)).book
