-- `idr_list_text::lines::clock_of` meets its contract: digit by digit. Assumes nothing.
use mathlib.Core.Path.{refl}
use Rattle.idr_list_text.specs.Text.{clock}
use Rattle.idr_list_text.proofs.lines.clock_of.Goals as goal

pub returns : goal.returns
unfolding clock
returns c = refl
