-- The words of the questions on a book: row report, first gap, the stream of a row, the state of a desk, and what a desk has not saved. A value that
-- is not there adds no word. Assumes nothing.
-- The manual, docs/INTERFACE.md: "Calls on the ledger".
use Rattle.std.specs.Prelude.{ℕ, suc, Bool, cond, not, List, [], ◌∷◌, slice_index_or}
use Rattle.std.proofs.Math.Option.{Option, none, some}
use Rattle.ledger_model.specs.Positions.{same, minus, size, missing, least, position_number}
use Rattle.ledger_model.specs.Book.{Place, free, row, Desk, closed, working, ticks_of, opened_of, worked_of}

-- The number at the lowest missing position, if there is one.
abbrev pub lowest_number : (key first : ℕ) → Option ℕ → List ℕ
lowest_number key first none = []
lowest_number key first (some i) = position_number key first i ∷ []

-- Row report: how many positions are ticked, how many are missing, and the lowest missing number. A free place has no report.
abbrev pub place_report : Place → List ℕ
place_report free = []
place_report (row key first ticks) = size ticks ∷ size (missing ticks) ∷ lowest_number key first (least (missing ticks))

-- First gap: the lowest missing number of the first row that has one, and that row.
abbrev pub gap_or : (key first r : ℕ) → Option ℕ → List ℕ → List ℕ
gap_or key first r none further = further
gap_or key first r (some i) further = position_number key first i ∷ r ∷ []

-- The first gap of the places ps, of which the first is row r.
unfoldable pub first_gap_from : (r : ℕ) → List Place → List ℕ
first_gap_from r [] = []
first_gap_from r (free ∷ ps) = first_gap_from (suc r) ps
first_gap_from r (row key first ticks ∷ ps) = gap_or key first r (least (missing ticks)) (first_gap_from (suc r) ps)

-- The stream of a row: its key and its first number. A free place has none.
abbrev pub place_stream : Place → List ℕ
place_stream free = []
place_stream (row key first ticks) = key ∷ first ∷ []

-- 1 for true, 0 for false.
abbrev pub flag_number : Bool → ℕ
flag_number flag = cond flag 1 0

-- The state of a desk: no words if it is closed; else its row, and 1 if a save would be stale now (the row's set is not the opened one).
abbrev pub desk_state : List Place → Desk → List ℕ
desk_state ps closed = []
desk_state ps (working r opened worked) = r ∷ flag_number (not (same (ticks_of (slice_index_or ps r free)) opened)) ∷ []

-- What a desk has not saved: how many positions are in its worked set but not in its opened one (unsaved ticks), and how many are in its opened set
-- but not in its worked one (unsaved unticks).
abbrev pub desk_unsaved : Desk → List ℕ
desk_unsaved x = size (minus (worked_of x) (opened_of x)) ∷ size (minus (opened_of x) (worked_of x)) ∷ []
