-- `bench::few::bench_gain` meets its contract. Assumes nothing.
use mathlib.Core.Path.{◌∙◌}
use Rattle.bench.proofs.Numbers.{few-onto}
use Rattle.bench.proofs.few.bench_gain.Goals as goal

pub returns : goal.returns
returns c = c.onto.ensures ∙ few-onto _ c.gain.ensures c.gain-2.ensures
