-- `bench::bench_untick` meets its contract. Assumes nothing.
use Prim.Native.Nat.{ℕ}
use mathlib.Core.List.{List}
use mathlib.Core.Path.{ap, ◌∙◌}
use Rattle.bench.proofs.bench_untick.Goals as goal

pub returns : goal.returns
returns c = ap (λ (w : List ℕ). (w, c.untick.new.s)) c.said.ensures ∙ c.untick.ensures
