-- `sfdu_headers::call::record_number` meets its contract. Assumes nothing.
use Prim.Native.Nat.{◌≤◌}
use lib.ListN.{length}
use Rattle.sfdu.specs.Nesting.{data_value_at}
use Rattle.sfdu_headers.proofs.Numbers.{number_short, number-long}
use Rattle.sfdu_headers.proofs.call.record_number.Goals as goal
use Rattle.sfdu_headers.proofs.call.record_number.Goals.{Else-s-data_value_at}

pub returns-then-s-data_value_at : goal.returns-then-s-data_value_at
returns-then-s-data_value_at c = number_short _ _ (rw c.data_value_at.ensures at c.if-s-data_value_at.true)

-- Where the slice is long enough for a record of that kind.
long : (c : Else-s-data_value_at) → let a = c.args in data_value_at a.kind ≤ length a.s.now
long c = rw c.data_value_at.ensures at c.if-s-data_value_at.false

pub number-requires : goal.number-requires
number-requires c = rw c.in-Telemetry.is at (long (goal.at.number-requires c).Else-s-data_value_at)

pub number-requires-in-Rsr : goal.number-requires-in-Rsr
number-requires-in-Rsr c = rw c.in-Rsr.is at (long (goal.at.number-requires-in-Rsr c).Else-s-data_value_at)

pub returns-in-Telemetry : goal.returns-in-Telemetry
returns-in-Telemetry c = rw (number-long _ _ (long (goal.at.returns-in-Telemetry c).Else-s-data_value_at), c.in-Telemetry.is) c.number.ensures

pub returns-in-Rsr : goal.returns-in-Rsr
returns-in-Rsr c = rw (number-long _ _ (long (goal.at.returns-in-Rsr c).Else-s-data_value_at), c.in-Rsr.is) c.number-in-Rsr.ensures
