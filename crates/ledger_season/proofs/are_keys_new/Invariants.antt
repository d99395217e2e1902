-- `are_keys_new` meets its contract. The invariant: the keys of the first sheets are read. Assumes nothing.
use Prim.Native.Nat.{◌≤◌, ◌-◌}
use Rattle.ledger_season.proofs.Keys.{AllKeyed}
use Rattle.ledger_season.proofs.are_keys_new.Given as goal

abbrev pub invariant-loop-k : goal.invariant-loop-k
invariant-loop-k l = (l.k ≤ l.n) × AllKeyed l.s l.n l.keys l.found l.k

abbrev pub decreases-loop-k : goal.decreases-loop-k
decreases-loop-k l = l.n - l.k
