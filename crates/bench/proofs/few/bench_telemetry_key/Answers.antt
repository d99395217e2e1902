-- `bench::few::bench_telemetry_key` meets its contract. Assumes nothing.
use mathlib.Core.Path.{ap, ◌∙◌}
use Rattle.answers.specs.Numbers.{plain}
use Rattle.bench.proofs.Numbers.{few-onto}
use Rattle.bench.proofs.few.bench_telemetry_key.Goals as goal

pub returns : goal.returns
returns c = c.onto.ensures ∙ few-onto _ (ap plain c.telemetry_key.ensures) c.key.ensures
