-- The state of the model, which document 01 calls the "plain book": 32 places for rows, and eight desks. Assumes nothing.
-- The manual, docs/INTERFACE.md: "The ledger".
use Rattle.std.specs.Prelude.{ℕ, zero, suc, Bool, true, false, cond, ◌||◌, List, [], ◌∷◌, replicate, ◌==◌, nat_lt, slice_index_or, slice_set}
use Rattle.ledger_model.specs.Positions.{row_length, position, Positions}

-- ---- the book

-- A place: free, or the row of a stream with its key, its first number and its set of ticked positions.
pub data Place : Type 0 where
  free : Place
  row : (key first : ℕ) (ticks : Positions) → Place

-- A desk: closed, or working on a place with two sets of positions: as opened, and as worked on.
pub data Desk : Type 0 where
  closed : Desk
  working : (place : ℕ) (opened worked : Positions) → Desk

pub record Book : Type 0 where
  pub places : List Place
  pub desks : List Desk

-- How many places and desks there are.
abbrev pub place_count : ℕ
place_count = 32

abbrev pub desk_count : ℕ
desk_count = 8

-- The book with these places and every desk closed.
abbrev pub idle : List Place → Book
idle ps = record { places = ps; desks = replicate desk_count closed }

-- The book at first: every place is free, every desk is closed.
abbrev pub fresh : Book
fresh = idle (replicate place_count free)

-- Place r and desk d. A place that does not exist counts as free, a desk that does not exist as closed.
abbrev pub place : Book → ℕ → Place
place b r = slice_index_or b.places r free

abbrev pub desk : Book → ℕ → Desk
desk b d = slice_index_or b.desks d closed

abbrev pub put_place : ℕ → Place → Book → Book
put_place r p b = record { places = slice_set b.places r p; desks = b.desks }

abbrev pub put_desk : ℕ → Desk → Book → Book
put_desk d x b = record { places = b.places; desks = slice_set b.desks d x }

-- ---- reading places and desks; no call uses what is given here for a free place or a closed desk

abbrev pub is_free : Place → Bool
is_free free = true
is_free (row key first ticks) = false

abbrev pub ticks_of : Place → Positions
ticks_of free = []
ticks_of (row key first ticks) = ticks

abbrev pub with_ticks : Positions → Place → Place
with_ticks s free = free
with_ticks s (row key first ticks) = row key first s

abbrev pub is_desk : ℕ → Bool
is_desk d = nat_lt d desk_count

abbrev pub is_open : Desk → Bool
is_open closed = false
is_open (working r opened worked) = true

abbrev pub place_of : Desk → ℕ
place_of closed = 0
place_of (working r opened worked) = r

abbrev pub opened_of : Desk → Positions
opened_of closed = []
opened_of (working r opened worked) = opened

abbrev pub worked_of : Desk → Positions
worked_of closed = []
worked_of (working r opened worked) = worked

abbrev pub with_worked : Positions → Desk → Desk
with_worked s closed = closed
with_worked s (working r opened worked) = working r opened s

-- The place that desk d has open.
abbrev pub open_place : Book → ℕ → Place
open_place b d = place b (place_of (desk b d))

unfoldable pub has_key : ℕ → List Place → Bool
has_key k [] = false
has_key k (free ∷ ps) = has_key k ps
has_key k (row key first ticks ∷ ps) = key == k || has_key k ps

-- The place of the key, if there is one.
unfoldable pub place_with : ℕ → List Place → ℕ
place_with k [] = zero
place_with k (free ∷ ps) = suc (place_with k ps)
place_with k (row key first ticks ∷ ps) = cond (key == k) zero (suc (place_with k ps))

unfoldable pub all_used : List Place → Bool
all_used [] = true
all_used (free ∷ ps) = false
all_used (row key first ticks ∷ ps) = all_used ps

-- The lowest free place, if there is one.
unfoldable pub lowest_free : List Place → ℕ
lowest_free [] = zero
lowest_free (free ∷ ps) = zero
lowest_free (row key first ticks ∷ ps) = suc (lowest_free ps)

-- Whether some desk has place r open.
unfoldable pub any_has_open : (r : ℕ) → List Desk → Bool
any_has_open r [] = false
any_has_open r (closed ∷ ds) = any_has_open r ds
any_has_open r (working q opened worked ∷ ds) = q == r || any_has_open r ds

-- The position of number n in the row at a place. In a free place every number is outside the row.
abbrev pub position_at : Place → ℕ → ℕ
position_at free n = row_length
position_at (row key first ticks) n = position key first n
