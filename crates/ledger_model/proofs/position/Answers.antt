-- `position` meets its contract. Assumes nothing.
use Rattle.std.proofs.Common.{rules}
use Rattle.ledger_model.proofs.Numbers.{telemetry-position, rsr-position, rsr-outside}
use Rattle.ledger_model.proofs.position.Goals as goal

pub returns-then-key-lt-RSR_START : goal.returns-then-key-lt-RSR_START
returns-then-key-lt-RSR_START c =
    telemetry-position _ _ _ _ (search rules) (search rules) (search rules) (search rules) c.wrapping_sub_u32-difference.ensures.value

pub returns-then-n-lt-RSR_NUMBERS : goal.returns-then-n-lt-RSR_NUMBERS
returns-then-n-lt-RSR_NUMBERS c =
    rsr-position _ _ _ _ (search rules) (search rules) c.wrapping_sub_u32-difference.ensures.value

pub returns : goal.returns
returns c = rsr-outside _ _ _ 0 (search rules) (search rules)
