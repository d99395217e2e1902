-- A list of calls on a sheet. Each does what its contract says, on the sheet as the call before left it. Assumes nothing.
use Rattle.std.specs.Prelude.{ℕ, List, [], ◌∷◌}
use Rattle.ledger_model.specs.Step.{Call}
use Rattle.ledger_layout.specs.Layout.{call, on_sheet}

-- The words of the calls' answers.
unfoldable pub answers_on : List Call → List ℕ → List (List ℕ)
answers_on [] s = []
answers_on (c ∷ calls) s = (on_sheet (call c) s).0 ∷ answers_on calls (on_sheet (call c) s).1

-- The sheet that the last call leaves.
unfoldable pub sheet_after : List Call → List ℕ → List ℕ
sheet_after [] s = s
sheet_after (c ∷ calls) s = sheet_after calls (on_sheet (call c) s).1
