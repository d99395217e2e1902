-- `bench::sheets::bench_parts` meets its contract. Assumes nothing.
use Prim.Native.Nat.{ℕ}
use mathlib.Core.List.{List}
use mathlib.Core.Path.{ap, ◌∙◌}
use Rattle.answers.specs.Numbers.{numbers_of, plain}
use Rattle.bench.specs.inner.Digest.{xor_of}
use Rattle.bench.proofs.sheets.bench_parts.Goals as goal

pub returns : goal.returns
returns c =
    c.xor_of.ensures ∙ ap xor_of (c.parts-2.ensures.0 ∙ ap (λ (ws : List ℕ). numbers_of (plain ws)) c.parts.ensures)
