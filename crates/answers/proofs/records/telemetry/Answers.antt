-- `answers::records::telemetry` meets its contract. Assumes nothing.
use mathlib.Core.Path.{refl}
use lib.Dec.{lit<}
use Rattle.answers.proofs.records.telemetry.Goals as goal

pub returns : goal.returns
returns c = rw (c.with_fields-numbers.ensures, c.record-begun.ensures) (refl, lit< tt)
