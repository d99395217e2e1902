-- `sfdu_headers::telemetry::band` meets its contract. Assumes nothing.
use mathlib.Core.Path.{sym, ◌∙◌}
use Rattle.sfdu_headers.proofs.telemetry.band.Goals as goal

pub returns-then-has_band : goal.returns-then-has_band
returns-then-has_band c = rw (sym c.has_band.ensures ∙ c.if-has_band.true)

pub returns : goal.returns
returns c = rw (sym c.has_band.ensures ∙ c.if-has_band.false)
