-- `number_at` meets its contract. Assumes nothing.
use Rattle.std.proofs.Common.{rules}
use Rattle.ledger_model.proofs.Numbers.{telemetry-number, rsr-number}
use Rattle.ledger_model.proofs.number_at.Goals as goal

pub returns-then-key-lt-RSR_START : goal.returns-then-key-lt-RSR_START
returns-then-key-lt-RSR_START c = telemetry-number _ _ _ _ (search rules) c.wrapping_add_u32-number.ensures.value

pub returns : goal.returns
returns c = rsr-number _ _ _ _ (search rules) c.wrapping_add_u32-number.ensures.value
