-- What holds of every book that calls can reach. The layout as a sheet needs it. Assumes nothing.
use Rattle.std.specs.Prelude.{◌≡◌, ℕ, ◌<◌, true, false, List, length, slice_index_or}
use Rattle.std.proofs.Math.Option.{Option, none, some}
use Rattle.keys.specs.Key.{valid_key}
use Rattle.keys.specs.Numbers.{modulus}
use Rattle.ledger_model.specs.Positions.{row_length, Positions}
use Rattle.ledger_model.specs.Book.{place_count, desk_count, Place, free, row, Desk, closed, working, Book, place, desk, is_free}

abbrev pub IsSet : Positions → Type 0
IsSet s = length s ≡ row_length

abbrev pub PlaceOk : Place → Type 0
PlaceOk free = Unit {0}
PlaceOk (row key first ticks) = (valid_key key ≡ true) × (first < modulus key) × IsSet ticks

abbrev pub DeskOk : List Place → Desk → Type 0
DeskOk ps closed = Unit {0}
DeskOk ps (working r opened worked) = (is_free (slice_index_or ps r free) ≡ false) × IsSet opened × IsSet worked

abbrev pub key_of : Place → Option ℕ
key_of free = none
key_of (row key first ticks) = some key

pub record WellFormed (b : Book) : Type 0 where
  pub places_count : length b.places ≡ place_count
  pub desks-count : length b.desks ≡ desk_count
  pub place_ok : (r : ℕ) → PlaceOk (place b r)
  -- The place of an open desk is used.
  pub desk_ok : (d : ℕ) → DeskOk b.places (desk b d)
  pub keys_differ : (r q key : ℕ) → key_of (place b r) ≡ some key → key_of (place b q) ≡ some key → r ≡ q
