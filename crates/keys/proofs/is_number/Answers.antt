-- `keys::is_number` meets its contract. Assumes nothing.
use Prim.Native.Nat.{◌^◌, ◌<◌}
use borrow.Author.Tests.{lt-ltb}
use borrow.Author.Rules.{rules}
use Rattle.keys.proofs.Numbers.{telemetry-modulus, rsr-modulus}
use Rattle.keys.proofs.is_number.Goals as goal

pub returns-then-key-lt-RSR_START : goal.returns-then-key-lt-RSR_START
returns-then-key-lt-RSR_START c =
    let fits : c.args.n < 2 ^ 32 = search rules in
    rw (telemetry-modulus _ c.if-key-lt-RSR_START.true, lt-ltb _ _ fits)

pub returns : goal.returns
returns c = rw (rsr-modulus _ c.if-key-lt-RSR_START.false)
