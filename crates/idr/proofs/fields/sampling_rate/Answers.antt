-- `idr::fields::sampling_rate` meets its contract. One test over the codes. Assumes nothing.
use mathlib.Core.Path.{ap}
use borrow.Author.Tests.{lt-ltb, le-ltb}
use Rattle.idr.specs.inner.Listed.{listed}
use Rattle.idr.proofs.Rates.{rate-by-parts, positive}
use Rattle.idr.proofs.fields.sampling_rate.Goals as goal

pub returns-then-choice-gt-LAST_CHOICE : goal.returns-then-choice-gt-LAST_CHOICE
returns-then-choice-gt-LAST_CHOICE c = ap listed (rw (lt-ltb _ _ c.if-choice-gt-LAST_CHOICE.true) at (rate-by-parts c.args.code c.requires))

pub returns-then-speed-gt-LAST_SPEED : goal.returns-then-speed-gt-LAST_SPEED
returns-then-speed-gt-LAST_SPEED c =
    ap listed (rw (le-ltb _ _ c.if-choice-gt-LAST_CHOICE.false, lt-ltb _ _ c.if-speed-gt-LAST_SPEED.true) at (rate-by-parts c.args.code c.requires))

pub returns : goal.returns
returns c =
    let low = le-ltb _ _ c.if-choice-gt-LAST_CHOICE.false in
    let slow = le-ltb _ _ c.if-speed-gt-LAST_SPEED.false in
    let some = rw (low, slow) at (positive c.args.code c.requires) in
    rw (rw (low, slow) at (rate-by-parts c.args.code c.requires), some)
