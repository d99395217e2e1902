-- `parts` meets its contract: each way out by where the key lies. Assumes nothing.
use native.Mathlib.Omega.{arith}
use mathlib.Core.Path.{ap, ◌∙◌}
use mathlib.Core.List.{◌∷◌}
use Rattle.keys.proofs.Laws.{parts-refused, telemetry-taken, rsr-taken}
use Rattle.keys.proofs.parts.Goals as goal

pub returns-then-key-ge-RSR_END : goal.returns-then-key-ge-RSR_END
returns-then-key-ge-RSR_END c = parts-refused _ (omega arith)

pub returns-then-key-lt-RSR_START : goal.returns-then-key-lt-RSR_START
returns-then-key-lt-RSR_START c = ap (λ values. 0 ∷ values) c.telemetry_parts.ensures ∙ telemetry-taken _ c.if-key-lt-RSR_START.true

pub returns : goal.returns
returns c = ap (λ values. 0 ∷ values) c.rsr_parts.ensures ∙ rsr-taken _ c.if-key-lt-RSR_START.false (omega arith)
