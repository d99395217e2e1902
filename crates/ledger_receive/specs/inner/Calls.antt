-- The parts of a receive on a right sheet. Assumes nothing.
use Rattle.std.specs.Prelude.{ℕ, ◌≡◌, true, List, [], ◌∷◌, Option, Some, None, Result, Ok, Err}
use Rattle.refusals.specs.declared.Refusal.{Refusal}
use Rattle.refusals.specs.Table.{number_of}
use Rattle.ledger_model.specs.Book.{Book, closed, desk, is_desk}
use Rattle.ledger_model.specs.Step.{Open, Tick, Answer, step, run}
use Rattle.ledger_sheet.specs.Sheet.{right}
use Rattle.ledger_layout.specs.Layout.{layout, book_of}
use Rattle.ledger_receive.specs.declared.Arrival as Code
use Rattle.ledger_receive.specs.Visits.{Arrival, unread, arrived, tick_answer, leaving, refusal_in, visit, outcome}

-- What a record says, as the model's type.
abbrev pub brought_by : Option Code.Arrival → Arrival
brought_by None = unread
brought_by (Some a) = arrived a.key a.number

-- The number of an outcome: 0 if the record is ticked and saved, else the refusal's.
abbrev pub outcome_of : Result (Unit {0}) Refusal → ℕ
outcome_of (Ok u) = 0
outcome_of (Err r) = number_of r

-- A right sheet, and a desk with no row open in it.
pub record Ready (d : ℕ) (s : List ℕ) : Type 0 where
  pub is_right : right s ≡ true
  pub is-desk : is_desk d ≡ true
  pub is-closed : desk (book_of s) d ≡ closed

-- A number, and the layout of a book.
abbrev pub Left : Type 0
Left = ℕ × List ℕ

-- The outcome and the sheet after the last call of a visit, by the tick's answer.
abbrev pub leave : (d : ℕ) → Answer → Book → Left
leave d a b = (refusal_in a, layout (step (leaving d a) b).book)

-- The outcome and the sheet after the calls at row r.
abbrev pub at_row : (d r n : ℕ) → Book → Left
at_row d r n b = (refusal_in (tick_answer d r n b), layout (run b (Open d r ∷ Tick d n ∷ leaving d (tick_answer d r n b) ∷ [])).book)

-- The outcome and the sheet after the visit of a record.
abbrev pub visiting : (d : ℕ) → Arrival → Book → Left
visiting d x b = (outcome d x b, layout (run b (visit d x b)).book)
