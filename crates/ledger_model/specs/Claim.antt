-- Demand 3: one claim about a whole list of calls on a store. `log` is the calls with their answers; they start on the layout of the fresh book and
-- end with the store `last`. Assumes nothing.
use Rattle.std.specs.Prelude.{◌≡◌, ℕ, true, ◌≢◌, ◌↔◌, List, ◌∷◌, ◌++◌, map}
use mathlib.Core.List.{Memᴰ}
use Rattle.ledger_model.specs.Positions.{Positions}
use Rattle.ledger_model.specs.Book.{row, working, Book, idle, fresh, place, desk, ticks_of}
use Rattle.ledger_model.specs.Step.{Call, Open, Save, Answer, refused, accepted, Entry, ◌⇒◌, call_of, run, book_after}
use Rattle.ledger_model.specs.History.{serial, marks_of, results}
use Rattle.ledger_model.specs.Stale.{LastOpen, Overtaken}
use Rattle.ledger_model.specs.Chain.{Chain}

-- The accepted save after `past` has its whole transaction in the serial history of the log. The transaction is the desk's last accepted open, all
-- its ticks and unticks since, also the refused ones, and the save. The serial history of `past` comes before it.
pub record Saved (log past : List Entry) (d : ℕ) (a : Answer) : Type 0 where
  pub row : ℕ
  pub opening : LastOpen past d row
  pub further : List Entry
  pub stands : serial log ≡ serial past ++ ((Open d row ⇒ opening.answer) ∷ marks_of d opening.since) ++ (Save d ⇒ a) ∷ further

-- Desk d has row r open. At the desk's last accepted open the row had this key, this first number, and the set that the desk keeps as opened. The row
-- still has this key and first number; its set may differ.
pub record AsOpened (past : List Entry) (d r : ℕ) (opened : Positions) : Type 0 where
  pub opening : LastOpen past d r
  pub key : ℕ
  pub first : ℕ
  pub was-row : place (book_after opening.before) r ≡ row key first opened
  pub same_stream : place (book_after past) r ≡ row key first (ticks_of (place (book_after past) r))

pub record Claim {S : Type 0} (Meets : Call → S → Answer → S → Type 0) (layout : Book → S) (log : List Entry) (last : S) : Type 0 where
  -- 1. The answers are the model's, and the last store is the layout of the model's book.
  pub model_answers : (run fresh (map call_of log)).log ≡ log
  pub model_store : last ≡ layout (book_after log)
  -- 2. Every entry of the serial history is an entry of the log. The history has the log's accepted enrolments, strikes and saves in their order,
  -- each save after its whole transaction. Its calls, made on a fresh book, get the same answers as in the log, and leave the log's places with every
  -- desk closed. The same holds of its calls on a fresh store.
  pub serial-entries : (e : Entry) → Memᴰ e (serial log) → Memᴰ e log
  pub serial-order : results (serial log) ≡ results log
  pub serial_saves : (past future : List Entry) (d : ℕ) (a : Answer) → log ≡ past ++ (Save d ⇒ a) ∷ future → accepted a ≡ true
      → Saved log past d a
  pub serial-run : run fresh (map call_of (serial log)) ≡ record { log = serial log; book = idle (book_after log).places }
  pub serial_store : (again : List Entry) (end : S) → Chain Meets (layout fresh) again end → map call_of again ≡ map call_of (serial log)
      → (again ≡ serial log) × (end ≡ layout (idle (book_after log).places))
  -- 3. What a desk keeps as opened is the row's set at its last accepted open, and the row is still the same stream's. So no desk can save into
  -- another stream's row.
  pub as_opened : (past future : List Entry) (d r : ℕ) (opened worked : Positions) → log ≡ past ++ future
      → desk (book_after past) d ≡ working r opened worked → AsOpened past d r opened
  -- A save by a desk that has a row open is refused as stale exactly if the row's set is not the opened one.
  pub stale-exactly : (past future : List Entry) (d r : ℕ) (opened worked : Positions) (a : Answer)
      → log ≡ past ++ (Save d ⇒ a) ∷ future → desk (book_after past) d ≡ working r opened worked
      → (a ≡ refused 31) ↔ (ticks_of (place (book_after past) r) ≢ opened)
  -- If it is, another desk's accepted save of the row stands between this desk's last accepted open and this save.
  pub stale-cause : (past future : List Entry) (d r : ℕ) (opened worked : Positions) (a : Answer)
      → log ≡ past ++ (Save d ⇒ a) ∷ future → desk (book_after past) d ≡ working r opened worked
      → a ≡ refused 31 → Overtaken past d r
