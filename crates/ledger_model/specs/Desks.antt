-- What the questions about a desk say of its save. Assumes nothing.
-- The manual, docs/INTERFACE.md: "Calls on the ledger".
use Rattle.std.specs.Prelude.{◌≡◌, ℕ, ◌+◌, ◌↔◌, List, [], ◌∷◌}
use Rattle.ledger_model.specs.Positions.{size}
use Rattle.ledger_model.specs.Book.{Book, fresh, desk, opened_of, worked_of}
use Rattle.ledger_model.specs.Step.{DeskState, Unsaved, Call, Ask, Save, gave, refused, step, run}

-- The desk's state says "stale" exactly if a save made now is refused with 31.
abbrev pub StaleIsToldExactly : Type 0
StaleIsToldExactly = (b : Book) (d r stale : ℕ) → (step (Ask (DeskState d)) b).answer ≡ gave (r ∷ stale ∷ [])
    → (stale ≡ 1) ↔ ((step (Save d) b).answer ≡ refused 31)

-- What the unsaved ticks and unticks say: the size of the worked set plus the unticks is the size of the opened set plus the ticks; and both counts
-- are 0 exactly if the two sets are the same.
pub record UnsavedTold (b : Book) (d ticks unticks : ℕ) : Type 0 where
  pub balance : size (worked_of (desk b d)) + unticks ≡ size (opened_of (desk b d)) + ticks
  pub none_exactly : ((ticks ≡ 0) × (unticks ≡ 0)) ↔ (worked_of (desk b d) ≡ opened_of (desk b d))

-- This holds after any calls.
abbrev pub EveryUnsaved : Type 0
EveryUnsaved = (calls : List Call) (d ticks unticks : ℕ)
    → let b = (run fresh calls).book in
    (step (Ask (Unsaved d)) b).answer ≡ gave (ticks ∷ unticks ∷ []) → UnsavedTold b d ticks unticks
