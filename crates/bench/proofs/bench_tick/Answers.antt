-- `bench::bench_tick` meets its contract. Assumes nothing.
use Prim.Native.Nat.{ℕ}
use mathlib.Core.List.{List}
use mathlib.Core.Path.{ap, ◌∙◌}
use Rattle.bench.proofs.bench_tick.Goals as goal

pub returns : goal.returns
returns c = ap (λ (w : List ℕ). (w, c.tick.new.s)) c.said.ensures ∙ c.tick.ensures
