-- `count_season` meets its contract. The invariant: the first sheets are counted. Assumes nothing.
use Prim.Native.Nat.{◌≤◌, ◌-◌}
use Rattle.ledger_season.proofs.Sheets.{SeasonTo}
use Rattle.ledger_season.proofs.count_season.Given as goal

abbrev pub invariant-loop-k : goal.invariant-loop-k
invariant-loop-k l = (l.k ≤ l.n) × SeasonTo l.s l.n l.sheets l.ticked l.missing l.gap l.k

abbrev pub decreases-loop-k : goal.decreases-loop-k
decreases-loop-k l = l.n - l.k
