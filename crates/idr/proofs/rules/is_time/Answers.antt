-- `idr::rules::is_time` meets its contract. Assumes nothing.
use Rattle.idr.specs.Rules.{is_time}
use Rattle.idr.proofs.Given.{same-clock}
use Rattle.idr.proofs.rules.is_time.Goals as goal

pub returns : goal.returns
unfolding is_time
returns c =
    let same = same-clock c.time_of.result c.args.w.now c.time_of.ensures in
    rw (c.are_digits.ensures, c.is_clock.ensures, same)
