-- What a tick or an untick does to the bytes of a row, and its answer. Assumes nothing.
use Rattle.std.specs.Prelude.{ℕ, Bool, not, cond, List, [], ◌∷◌}
use Rattle.std.specs.Bool.{beq}
use Rattle.refusals.specs.Judge.{Rule, ◌when◌}
use Rattle.ledger_model.specs.Positions.{position, in_row}
use Rattle.ledger_model.specs.Step.{already_so}
use Rattle.ledger_sheet.specs.Sheet.{key_at, first_number_at}
use Rattle.ledger_sheet.specs.Outcome.{Outcome, refused_or}
use Rattle.ledger_sheet.specs.inner.Done.{done}
use Rattle.ledger_layout.specs.Ticks.{ticked_at}
use Rattle.ledger_changes.specs.inner.Rows.{set_tick, clear_tick}

-- The position of number n in a row's bytes.
abbrev pub position_in : List ℕ → ℕ → ℕ
position_in row n = position (key_at row 0) (first_number_at row 0) n

-- The bytes of a row after a tick of position i (on is true) or an untick.
abbrev pub marked : Bool → List ℕ → ℕ → List ℕ
marked on row i = cond on (set_tick row 0 i) (clear_tick row 0 i)

-- The refusals that depend on the row alone. 29 and 30 test the worked copy.
abbrev pub mark_rules : Bool → List ℕ → ℕ → List (Rule ℕ)
mark_rules on row i = (28 when not (in_row i)) ∷ (already_so on when beq (ticked_at row 0 i) on) ∷ []

-- The outcome of a tick or an untick of position i, and of number n, in the bytes of a row.
unfoldable pub mark_position : Bool → ℕ → List ℕ → Outcome
mark_position on i row = refused_or (mark_rules on row i) (done, marked on row i) row

unfoldable pub mark_row : Bool → ℕ → List ℕ → Outcome
mark_row on n row = mark_position on (position_in row n) row
