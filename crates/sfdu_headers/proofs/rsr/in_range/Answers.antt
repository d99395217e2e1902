-- `sfdu_headers::rsr::in_range` meets its contract. Assumes nothing.
use mathlib.Core.Path.{ap, sym, ◌∙◌}
use Rattle.sfdu_headers.specs.declared.Allowed.{Allowed}
use Rattle.sfdu_headers.specs.Ranges.{in_range}
use Rattle.sfdu_headers.proofs.rsr.in_range.Goals as goal

pub returns-in-Between : goal.returns-in-Between
unfolding in_range
returns-in-Between c = rw c.in-Between.is

pub returns-in-Bands : goal.returns-in-Bands
unfolding in_range
returns-in-Bands c = c.is_rsr_band.ensures ∙ ap (λ (x : Allowed). in_range x c.args.b) (sym c.in-Bands.is)
