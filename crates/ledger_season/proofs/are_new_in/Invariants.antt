-- `are_new_in` meets its contract. The invariant: the first keys are different, and their slots are taken. Assumes nothing.
use mathlib.Core.Bool.{true}
use mathlib.Core.Path.{◌≡◌}
use Rattle.ledger_season.specs.inner.Gathered.{are_new}
use Rattle.ledger_season.proofs.Keys.{Covers}
use Rattle.ledger_season.proofs.are_new_in.Given as goal

abbrev pub invariant-loop-i : goal.invariant-loop-i
invariant-loop-i l = (are_new l.keys l.i ≡ true) × Covers l.slots l.keys l.taken l.i
