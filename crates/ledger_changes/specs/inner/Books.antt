-- What the functions on desks do to the book in a sheet: parts of the model's open and save. Assumes nothing.
use Rattle.std.specs.Prelude.{ℕ, Bool}
use Rattle.ledger_model.specs.Positions.{same}
use Rattle.ledger_model.specs.Book.{working, Book, place, desk, put_place, put_desk, ticks_of, with_ticks, place_of, opened_of, worked_of, open_place}

-- The book after desk d opened row r: both copies are the row.
abbrev pub opened : (d r : ℕ) → Book → Book
opened d r b = put_desk d (working r (ticks_of (place b r)) (ticks_of (place b r))) b

-- Whether desk d's row is still as the desk opened it.
abbrev pub is_current : (d : ℕ) → Book → Bool
is_current d b = same (ticks_of (open_place b d)) (opened_of (desk b d))

-- The book after desk d's worked set became the ticks of its row.
abbrev pub stored : (d : ℕ) → Book → Book
stored d b = put_place (place_of (desk b d)) (with_ticks (worked_of (desk b d)) (open_place b d)) b
