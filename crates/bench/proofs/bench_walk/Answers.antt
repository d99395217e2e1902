-- `bench::bench_walk` meets its contract. Assumes nothing.
use Prim.Native.Nat.{ℕ}
use mathlib.Core.List.{List}
use mathlib.Core.Path.{ap}
use lib.ListN.{get_or}
use Rattle.bench.proofs.bench_walk.Goals as goal

pub returns : goal.returns
returns c = ap (λ (w : List ℕ). get_or w 0 0) c.walk-found.ensures
