-- Demand 3 for calls that do what the model does, whatever their contracts are. The proof of demand 3 for the public calls uses it. Assumes nothing.
use Rattle.std.specs.Prelude.{ℕ, ◌≡◌, ◌≢◌, List, map}
use Rattle.ledger_model.specs.Book.{fresh}
use Rattle.ledger_model.specs.Step.{Call, Answer, refused, answer_words, Entry, call_of}
use Rattle.ledger_model.specs.History.{serial}
use Rattle.ledger_model.specs.Chain.{Chain}
use Rattle.ledger_model.specs.Claim.{Claim}
use Rattle.ledger_layout.specs.Layout.{layout, call, on_sheet}
use Rattle.ledger_layout.specs.Demand3.{header_and_rows}

-- What the contract of call c promises, if it answers a on the sheet s and leaves t: a and t are those of the model's call on s. No refusal has the
-- number 0, which stands for an accepted call.
abbrev pub Meets : Call → List ℕ → Answer → List ℕ → Type 0
Meets c s a t = (a ≢ refused 0) × ((answer_words a, t) ≡ on_sheet (call c) s)

-- `log` is the calls with their answers, from a fresh sheet to the sheet `last`.
pub record MetCalls (log : List Entry) (last : List ℕ) : Type 0 where
  -- The claim of demand 3: the answers are the model's, and the last sheet is the layout of its book, byte for byte. The serial history, run from a
  -- fresh sheet, gets the log's answers and leaves the log's places, with every desk closed. A save is refused as stale exactly if the row's set is
  -- not the opened one, and then another desk has saved the row.
  pub claim : Claim Meets layout log last
  -- The rows are those that the serial history leaves on a fresh sheet, byte for byte.
  pub serial_rows : (again : List Entry) (end : List ℕ) → Chain Meets (layout fresh) again end → map call_of again ≡ map call_of (serial log)
      → header_and_rows end ≡ header_and_rows last
