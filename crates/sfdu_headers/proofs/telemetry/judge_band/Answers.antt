-- `sfdu_headers::telemetry::judge_band` meets its contract. Assumes nothing.
use mathlib.Core.Path.{sym, ◌∙◌}
use Rattle.laws.proofs.Bools.{failed, passed}
use Rattle.refusals.specs.Judge.{judge}
use Rattle.sfdu_headers.specs.inner.Fault.{fault}
use Rattle.sfdu_headers.proofs.telemetry.judge_band.Goals as goal

pub returns-then-not-has_band : goal.returns-then-not-has_band
unfolding fault judge
returns-then-not-has_band c = rw (failed c.has_band.ensures c.if-not-has_band.true-raw)

pub returns-then-is_telemetry_band : goal.returns-then-is_telemetry_band
unfolding fault judge
returns-then-is_telemetry_band c = rw (
  passed c.has_band.ensures c.if-not-has_band.false-raw,
  sym c.is_telemetry_band.ensures ∙ c.if-is_telemetry_band.true,
)

pub returns : goal.returns
unfolding fault judge
returns c = rw (
  passed c.has_band.ensures c.if-not-has_band.false-raw,
  sym c.is_telemetry_band.ensures ∙ c.if-is_telemetry_band.false,
)
