-- `idr::rules::are_rates` meets its contract. Assumes nothing.
use Rattle.idr.specs.Fields.{playback, sampling}
use Rattle.idr.specs.Rules.{are_rates}
use Rattle.idr.proofs.Rates.{listed-is}
use Rattle.idr.proofs.rules.are_rates.Goals as goal

pub returns : goal.returns
unfolding are_rates
returns c =
    rw (
      c.is_some-2.ensures,
      c.sampling_rate.ensures,
      c.field-2.ensures.0,
      c.is_some.ensures,
      c.playback_rate.ensures,
      c.field.ensures.0,
      listed-is (playback c.args.w.now),
      listed-is (sampling c.args.w.now),
    )
