-- A tick stays. A record that is ticked in a row is on no missing list, until a desk that unticked it saves or the row is struck. Assumes nothing.
use Rattle.std.specs.Prelude.{◌≡◌, ℕ, Bool, true, false, not, ◌&&◌, ◌||◌, List, [], ◌∷◌, ◌++◌, ◌==◌}
use Rattle.std.proofs.Math.Option.{Option, none, some}
use mathlib.Core.List.{Memᴰ}
use Rattle.ledger_model.specs.Positions.{position, Positions, has}
use Rattle.ledger_model.specs.Book.{row, Book, fresh, place}
use Rattle.ledger_model.specs.Step.{Call, Enrol, Ask, Open, Mark, Save, Drop, Strike, accepted, Entry, ◌⇒◌, run}
use Rattle.ledger_model.specs.History.{transaction}
use Rattle.ledger_model.specs.Stale.{last_opened}
use Rattle.ledger_model.specs.Tally.{strikes}
use Rattle.ledger_model.specs.Missing.{missing_numbers}

-- Row r is the row of the stream with this key and first number, and number n is ticked in it.
pub record TickedIn (b : Book) (r key first n : ℕ) : Type 0 where
  pub ticks : Positions
  pub is-row : place b r ≡ row key first ticks
  pub is-ticked : has ticks (position key first n) ≡ true

-- Whether an entry is an accepted untick of number n by any desk; and whether a list of entries has one.
unfoldable pub unticks : (n : ℕ) → Entry → Bool
unticks n (Enrol key first ⇒ a) = false
unticks n (Ask q ⇒ a) = false
unticks n (Open d r ⇒ a) = false
unticks n (Mark flag d m ⇒ a) = accepted a && not flag && m == n
unticks n (Save d ⇒ a) = false
unticks n (Drop d ⇒ a) = false
unticks n (Strike r ⇒ a) = false

unfoldable pub unticked_in : (n : ℕ) → List Entry → Bool
unticked_in n [] = false
unticked_in n (e ∷ log) = unticks n e || unticked_in n log

-- Whether a desk's last accepted open was of row r.
abbrev pub was_of : (r : ℕ) → Option ℕ → Bool
was_of r none = false
was_of r (some q) = q == r

-- Whether an entry takes number n out of row r; `past` is the log before the entry. It does if it is an accepted save of the row whose transaction
-- has an accepted untick of the number, or an accepted strike of the row.
unfoldable pub takes_out : (r n : ℕ) (past : List Entry) → Entry → Bool
takes_out r n past (Enrol key first ⇒ a) = false
takes_out r n past (Ask q ⇒ a) = false
takes_out r n past (Open d q ⇒ a) = false
takes_out r n past (Mark flag d m ⇒ a) = false
takes_out r n past (Save d ⇒ a) = accepted a && was_of r (last_opened d past) && unticked_in n (transaction d past)
takes_out r n past (Drop d ⇒ a) = false
takes_out r n past (Strike q ⇒ a) = strikes r (Strike q ⇒ a)

-- Whether an entry of `future` takes number n out of row r; `past` is the log before them.
unfoldable pub taken_out : (r n : ℕ) (past future : List Entry) → Bool
taken_out r n past [] = false
taken_out r n past (e ∷ future) = takes_out r n past e || taken_out r n (past ++ e ∷ []) future

-- If a number is ticked in a row after any calls, and no later call takes it out, it is ticked at the end, and the row is still the same stream's.
abbrev pub TickStays : Type 0
TickStays = (calls more : List Call) (r key first n : ℕ)
    → let before = run fresh calls in
    let after = run before.book more in
    TickedIn before.book r key first n → taken_out r n before.log after.log ≡ false → TickedIn after.book r key first n

-- A ticked number is not on the row's missing list.
abbrev pub TickedNotMissing : Type 0
TickedNotMissing = (calls : List Call) (r key first n : ℕ)
    → let b = (run fresh calls).book in
    TickedIn b r key first n → Memᴰ n (missing_numbers (place b r)) → ⊥
