-- What holds of every receive. It is a list of the ledger's calls, so demand 3 covers it. It walks the stream as a list does. A received record is
-- not ordered. Assumes nothing.
-- The manual, docs/INTERFACE.md: "Calls on the ledger".
use Rattle.std.specs.Prelude.{ℕ, ◌≡◌, false, length, get_or}
use Rattle.std.proofs.Math.Option.{some}
use mathlib.Core.List.{List, [], ◌∷◌, ◌++◌, map, Memᴰ}
use Rattle.refusals.specs.Judge.{verdict}
use Rattle.sfdu_stream.specs.Listing.{listing, Columns, shortest, list_numbers}
use Rattle.ledger_model.specs.Book.{place}
use Rattle.ledger_model.specs.Step.{Call, Entry, call_of, run}
use Rattle.ledger_model.specs.WellFormed.{key_of}
use Rattle.ledger_model.specs.Chain.{Chain}
use Rattle.ledger_model.specs.Kept.{taken_out}
use Rattle.ledger_layout.specs.Layout.{book_of}
use Rattle.octets.specs.Octets.{AreBytes}
use Rattle.ledger.specs.Demand3.{Promised}
use Rattle.ledger.specs.Private.{History}
use Rattle.ledger_missing.specs.Missing.{missing_of}
use Rattle.ledger_receive.specs.Visits.{Arrival, unread, arrived, visits, outcomes, WasReceived}
use Rattle.ledger_receive.specs.Receive.{arrivals, receive_rules, ticked_in, receive_on}

-- The records that a receive handles, and the calls that it makes for them.
abbrev pub handled : (stream list : List ℕ) → List Arrival
handled stream list = arrivals stream (listing (length list) stream 0).entries

abbrev pub calls_of : (d : ℕ) (stream list s : List ℕ) → List Call
calls_of d stream list s = visits d (handled stream list) (book_of s)

-- The receive is not refused.
abbrev pub Accepted : (d : ℕ) (s : List ℕ) → Type 0
Accepted d s = verdict (receive_rules d s) ≡ 0

-- What a receive leaves: the list, and the sheet.
abbrev pub list_after : (d : ℕ) (stream list s : List ℕ) → List ℕ
list_after d stream list s = (receive_on d stream list s).1

abbrev pub sheet_after : (d : ℕ) (stream list s : List ℕ) → List ℕ
sheet_after d stream list s = (receive_on d stream list s).2

-- ---- a receive is a list of calls

-- These calls, made one after the other on the sheet, each keeping its contract, leave the sheet that the receive leaves. `log` is the calls with
-- their answers.
pub record IsCalls (d : ℕ) (stream list s : List ℕ) : Type 0 where
  pub log : List Entry
  pub of_these : map call_of log ≡ calls_of d stream list s
  pub made : Chain Promised s log (sheet_after d stream list s)

abbrev pub ReceiveIsCalls : Type 0
ReceiveIsCalls = (d : ℕ) (stream list s : List ℕ) → AreBytes s → Accepted d s → IsCalls d stream list s

-- A history that goes on with a receive is a history: what holds of every history holds of it.
abbrev pub HistoryGoesOn : Type 0
HistoryGoesOn = (past : List Entry) (s : List ℕ) → History past s → (d : ℕ) (stream list : List ℕ) → Accepted d s
    → History (past ++ (run (book_of s) (calls_of d stream list s)).log) (sheet_after d stream list s)

-- ---- the walk

-- The count, the stop place, the stop number and its second number are those that `list_numbers` answers for lists of the same length. Then comes how
-- many records were ticked.
abbrev pub WalksAsListed : Type 0
WalksAsListed = (d : ℕ) (stream list s : List ℕ) → Accepted d s → (columns : Columns) → shortest columns ≡ length list
    → (receive_on d stream list s).0 ≡ 0 ∷ (list_numbers stream columns).0 ++ (ticked_in (outcomes d (handled stream list) (book_of s)) ∷ [])

-- ---- a received record is not ordered

-- Number n of the stream with this key belongs to row `row` of the sheet t, which the calls of `past` left, and is not on its missing list. This
-- still holds after the calls of `more`, from t to the sheet `last`, if none of them takes the number out.
pub record NotOrderedIn (past : List Entry) (t : List ℕ) (more : List Entry) (last : List ℕ) (key n : ℕ) : Type 0 where
  pub row : ℕ
  pub is_its_row : key_of (place (book_of t) row) ≡ some key
  pub not-missing : Memᴰ n (missing_of t row) → ⊥
  pub still_its_row : taken_out row n past more ≡ false → key_of (place (book_of last) row) ≡ some key
  pub still_not_missing : taken_out row n past more ≡ false → Memᴰ n (missing_of last row) → ⊥

-- Any calls, from a sheet that `fresh` made to the sheet s; then desk d receives a stream; then any calls, to the sheet `last`. A record of the
-- stream whose outcome in the list is 0 or 29 is not ordered.
abbrev pub ReceivedIsNotOrdered : Type 0
ReceivedIsNotOrdered = (past : List Entry) (s : List ℕ) → History past s
    → (d : ℕ) (stream list : List ℕ) → Accepted d s
    → (more : List Entry) (last : List ℕ) → Chain Promised (sheet_after d stream list s) more last
    → (i key n : ℕ) → get_or (handled stream list) i unread ≡ arrived key n → WasReceived (get_or (list_after d stream list s) i 12)
    → NotOrderedIn (past ++ (run (book_of s) (calls_of d stream list s)).log) (sheet_after d stream list s) more last key n
