-- `sfdu::nesting::kind_tag` meets its contract. Assumes nothing.
use mathlib.Core.Path.{refl}
use Rattle.sfdu.proofs.nesting.kind_tag.Goals as goal

pub returns-in-Telemetry : goal.returns-in-Telemetry
returns-in-Telemetry c = rw c.in-Telemetry.is refl

pub returns-in-Rsr : goal.returns-in-Rsr
returns-in-Rsr c = rw c.in-Rsr.is refl
