-- `few_share` ends, and does nothing undefined: its answer decides the speed alone. Assumes nothing.
use Prim.Native.Nat.{◌≤◌}
use Rattle.ledger_season.proofs.few_share.Given as goal

abbrev pub invariant-loop-key : goal.invariant-loop-key
invariant-loop-key l = l.shared ≤ l.key-index
