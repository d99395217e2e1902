-- `bench::received::bench_receive` meets its contract. Assumes nothing.
use Prim.Native.Nat.{ℕ}
use mathlib.Core.List.{List}
use mathlib.Core.Path.{ap, ◌∙◌}
use Rattle.answers.specs.Numbers.{numbers_of, plain}
use Rattle.bench.specs.inner.Digest.{xor_of}
use Rattle.bench.proofs.received.bench_receive.Goals as goal

pub returns : goal.returns
returns c =
    let called = c.receive.ensures in
    let words = ap (λ (o : List ℕ × List ℕ × List ℕ). numbers_of (plain o.0)) called in (
      c.xor_of.ensures ∙ ap xor_of (c.received.ensures.0 ∙ words),
      ap (λ (o : List ℕ × List ℕ × List ℕ). o.1) called,
      ap (λ (o : List ℕ × List ℕ × List ℕ). o.2) called,
    )
