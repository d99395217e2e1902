-- `octets::numbers::read_le_u64` meets its contract. Assumes nothing.
use Prim.Native.Nat.{ℕ, ◌+◌, ◌-◌, ◌<◌}
use native.Mathlib.Nat.{add-zero, add_assoc}
use native.Mathlib.Omega.{arith}
use mathlib.Core.Path.{◌≡◌, refl, ap, ◌∙◌}
use lib.ListN.{get_or, take, drop}
use Rattle.octets.specs.inner.Little.{little_at}
use Rattle.octets.proofs.Parts.{length-lent, lent_at}
use Rattle.octets.proofs.numbers.read_le_u64.Goals as goal

pub returns : goal.returns
unfolding little_at
returns c =
    let s = c.args.s.now in
    let a = c.args.a in
    let at : (i k : ℕ) → i < 8 → a + i ≡ k → get_or (take (a + 8 - a) (drop a s)) i 0 ≡ get_or s k 0 =
    λ i k l e. lent_at s a 8 i c.requires (omega (arith, length-lent s a 8 c.requires)) ∙ ap (λ j. get_or s j 0) e in
    simp (add-zero, add_assoc) (omega (
      arith,
      c.from_le_bytes.ensures,
      at 0 a (omega arith) (omega arith),
      at 1 _ (omega arith) refl,
      at 2 _ (omega arith) refl,
      at 3 _ (omega arith) refl,
      at 4 _ (omega arith) refl,
      at 5 _ (omega arith) refl,
      at 6 _ (omega arith) refl,
      at 7 _ (omega arith) refl,
    ))
