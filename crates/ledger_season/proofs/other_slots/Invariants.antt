-- `other_slots` meets its contract: each of the primes would do. Assumes nothing.
use mathlib.Core.Path.{◌≡◌}
use Rattle.ledger_season.proofs.Keys.{others}
use Rattle.ledger_season.proofs.other_slots.Given as goal

abbrev pub invariant-loop-slots : goal.invariant-loop-slots
invariant-loop-slots l = l.slots-items ≡ others
