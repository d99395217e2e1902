-- `idr::fields::reduction_of` meets its contract. Assumes nothing.
use Rattle.idr.specs.Fields.{playback, sampling}
use Rattle.idr.proofs.Rates.{listed-or}
use Rattle.idr.proofs.fields.reduction_of.Goals as goal

pub returns : goal.returns
returns c =
    rw (
      c.block_stored.ensures.0,
      c.field-7.ensures.0,
      c.field-6.ensures.0,
      c.field-5.ensures.0,
      c.decimation.ensures,
      c.field-4.ensures.0,
      c.field-3.ensures.0,
      c.unwrap_or-2.ensures,
      c.sampling_rate.ensures,
      c.field-2.ensures.0,
      c.unwrap_or.ensures,
      c.playback_rate.ensures,
      c.field.ensures.0,
      listed-or (playback c.args.w.now),
      listed-or (sampling c.args.w.now),
    )
