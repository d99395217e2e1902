-- Receive as a call that changes a pair of slices: the list and the sheet. Assumes nothing.
-- The manual, docs/INTERFACE.md: "Calls from C".
use Rattle.std.specs.Prelude.{ℕ, List}
use Rattle.ledger_receive.specs.Receive.{receive_on}

abbrev pub received : (desk : ℕ) (stream : List ℕ) → List ℕ × List ℕ → List ℕ × (List ℕ × List ℕ)
received desk stream lent =
    let left = receive_on desk stream lent.0 lent.1 in
    (left.0, (left.1, left.2))
