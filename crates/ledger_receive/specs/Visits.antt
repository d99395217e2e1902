-- A desk receives records. Each record makes a visit, which is a short list of calls. So a receive is a list of calls like any other. A received
-- record is on no missing list, until it is unticked or its row is struck. Assumes nothing.
use Rattle.std.specs.Prelude.{ℕ, ◌≡◌, ◌⊎◌, true, false, cond, not, eqb, get_or, set}
use mathlib.Core.List.{List, [], ◌∷◌, ◌++◌, map, Memᴰ}
use Rattle.refusals.specs.Judge.{Rule, ◌when◌, verdict}
use Rattle.ledger_model.specs.Positions.{has, in_row}
use Rattle.ledger_model.specs.Book.{Book, closed, fresh, place, desk, put_place, ticks_of, with_ticks, is_desk, has_key, place_with, position_at}
use Rattle.ledger_model.specs.Step.{Find, Call, Ask, Open, Tick, Save, Drop, Answer, gave, refused, step, Run, run}
use Rattle.ledger_model.specs.Missing.{missing_numbers}
use Rattle.ledger_model.specs.Kept.{TickedIn, taken_out}

-- ---- the visit of one record

-- What a record says: its stream's key and its number; nothing (unread) if a field of its header is out of range.
pub data Arrival : Type 0 where
  unread : Arrival
  arrived : (key n : ℕ) → Arrival

-- The answer of the tick, after the open.
abbrev pub tick_answer : (d r n : ℕ) → Book → Answer
tick_answer d r n b = (step (Tick d n) (step (Open d r) b).book).answer

-- The visit's last call: a save if the tick is accepted, else a drop.
abbrev pub leaving : (d : ℕ) → Answer → Call
leaving d (gave words) = Save d
leaving d (refused number) = Drop d

-- The calls of a visit at desk d: find the stream's row; if there is one, open it, tick the number, and save or drop.
unfoldable pub visit : (d : ℕ) → Arrival → Book → List Call
visit d unread b = []
visit d (arrived key n) b =
    let r = place_with key b.places in
    Ask (Find key) ∷ cond (has_key key b.places) (Open d r ∷ Tick d n ∷ leaving d (tick_answer d r n b) ∷ []) []

-- The outcome of a record: 0 if it is ticked and saved; 12 if it is unread; 25 if no row has its key; else the refusal of the tick.
abbrev pub refusal_in : Answer → ℕ
refusal_in (gave words) = 0
refusal_in (refused number) = number

unfoldable pub outcome : (d : ℕ) → Arrival → Book → ℕ
outcome d unread b = 12
outcome d (arrived key n) b = cond (has_key key b.places) (refusal_in (tick_answer d (place_with key b.places) n b)) 25

-- ---- records one after the other

unfoldable pub visits : (d : ℕ) → List Arrival → Book → List Call
visits d [] b = []
visits d (x ∷ xs) b = visit d x b ++ visits d xs (run b (visit d x b)).book

unfoldable pub outcomes : (d : ℕ) → List Arrival → Book → List ℕ
outcomes d [] b = []
outcomes d (x ∷ xs) b = outcome d x b ∷ outcomes d xs (run b (visit d x b)).book

-- ---- what holds of every visit

-- The outcome, from what the book holds.
abbrev pub visit_rules : Arrival → Book → List (Rule ℕ)
visit_rules unread b = (12 when true) ∷ []
visit_rules (arrived key n) b =
    let p = place b (place_with key b.places) in
    (25 when not (has_key key b.places))
    ∷ (28 when not (in_row (position_at p n)))
    ∷ (29 when has (ticks_of p) (position_at p n))
    ∷ []

-- The book with the record's number ticked in its stream's row.
abbrev pub filed : Arrival → Book → Book
filed unread b = b
filed (arrived key n) b =
    let r = place_with key b.places in
    let p = place b r in
    put_place r (with_ticks (set (ticks_of p) (position_at p n) true) p) b

pub record Visited (d : ℕ) (x : Arrival) (b : Book) : Type 0 where
  pub told : outcome d x b ≡ verdict (visit_rules x b)
  -- The desk is closed again. Nothing has changed, except the tick of an accepted record.
  pub left : (run b (visit d x b)).book ≡ cond (eqb (outcome d x b) 0) (filed x b) b

-- This holds after any calls on a fresh book, for a desk that has no row open.
abbrev pub EveryVisit : Type 0
EveryVisit = (calls : List Call) (d : ℕ) → let b = (run fresh calls).book in is_desk d ≡ true → desk b d ≡ closed → (x : Arrival) → Visited d x b

-- ---- the same records received again

-- The outcome the second time: 29 if the record was ticked and saved the first time; else the same.
abbrev pub again : (number : ℕ) → ℕ
again number = cond (eqb number 0) 29 number

-- The same records, received again right after, do not change the book.
pub record SameAgain (d : ℕ) (xs : List Arrival) (b : Book) : Type 0 where
  pub told : outcomes d xs (run b (visits d xs b)).book ≡ map again (outcomes d xs b)
  pub left : (run (run b (visits d xs b)).book (visits d xs (run b (visits d xs b)).book)).book ≡ (run b (visits d xs b)).book

abbrev pub ReceivedAgain : Type 0
ReceivedAgain = (calls : List Call) (d : ℕ) → let b = (run fresh calls).book in
    is_desk d ≡ true → desk b d ≡ closed → (xs : List Arrival) → SameAgain d xs b

-- ---- a received record is not ordered

-- The record was received: it was ticked and saved, or it was ticked already.
abbrev pub WasReceived : (number : ℕ) → Type 0
WasReceived number = (number ≡ 0) ⊎ (number ≡ 29)

-- Number n of the stream with this key is ticked in a row after the calls of `before`. After any further calls, if none of them takes it out of that
-- row, it is still ticked there, and is not on the row's missing list.
pub record NotOrdered (before : Run) (more : List Call) (key n : ℕ) : Type 0 where
  pub row : ℕ
  pub first : ℕ
  pub ticked : TickedIn before.book row key first n
  pub not-missing : Memᴰ n (missing_numbers (place before.book row)) → ⊥
  pub stays : taken_out row n before.log (run before.book more).log ≡ false → TickedIn (run before.book more).book row key first n
  pub stays_not_missing : taken_out row n before.log (run before.book more).log ≡ false
      → Memᴰ n (missing_numbers (place (run before.book more).book row)) → ⊥

-- Any calls on a fresh book; then a desk with no row open receives records; then any calls. No record that was received is ordered.
abbrev pub ReceivedNotOrdered : Type 0
ReceivedNotOrdered = (calls more : List Call) (d : ℕ) → let b = (run fresh calls).book in
    is_desk d ≡ true → desk b d ≡ closed → (xs : List Arrival) (i key n : ℕ)
    → get_or xs i unread ≡ arrived key n → WasReceived (get_or (outcomes d xs b) i 12) → NotOrdered (run fresh (calls ++ visits d xs b)) more key n
