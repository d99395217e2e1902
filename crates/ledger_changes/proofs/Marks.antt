-- The outcome of a tick or an untick. Assumes nothing.
use Prim.Native.Nat.{ℕ, ◌≤◌, ◌<◌}
use mathlib.Core.Bool.{Bool, true, false, not}
use mathlib.Core.List.{List, [], ◌∷◌}
use mathlib.Core.Path.{◌≡◌}
use borrow.Author.Tests.{lt-ltb, le-ltb}
use Rattle.ledger_model.specs.Step.{already_so}
use Rattle.ledger_model.specs.Positions.{row_length}
use Rattle.refusals.specs.Judge.{judge}
use Rattle.ledger_layout.specs.Ticks.{ticked_at}
use Rattle.ledger_sheet.specs.Outcome.{Outcome, refused_or}
use Rattle.ledger_changes.specs.inner.Bytes.{marked, mark_position}

-- ---- a tick, where on is true, or an untick of position i

module _ (i : ℕ) (row : List ℕ) where
  -- a position that is not in the row
  pub mark-outside : (on : Bool) → row_length ≤ i → ◌≡◌ {A = Outcome} (28 ∷ [], row) (mark_position on i row)
  unfolding mark_position refused_or judge
  mark-outside on h = rw (le-ltb i row_length h)

  -- one that is as it should become
  pub mark-same : (on : Bool) → i < row_length → ticked_at row 0 i ≡ on → ◌≡◌ {A = Outcome} (already_so on ∷ [], row) (mark_position on i row)
  unfolding mark_position refused_or judge
  mark-same true h e = rw (lt-ltb i row_length h, e)
  mark-same false h e = rw (lt-ltb i row_length h, e)

  -- one that is changed
  pub mark-changed : (on : Bool) → i < row_length → ticked_at row 0 i ≡ not on → ◌≡◌ {A = Outcome} (0 ∷ [], marked on row i) (mark_position on i row)
  unfolding mark_position refused_or judge
  mark-changed true h e = rw (lt-ltb i row_length h, e)
  mark-changed false h e = rw (lt-ltb i row_length h, e)
