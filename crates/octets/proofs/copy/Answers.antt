-- `octets::copy` meets its contract. Assumes nothing.
use native.Mathlib.Omega.{arith}
use Prim.Native.Nat.{◌+◌, ◌-◌}
use mathlib.Core.Path.{◌≡◌, refl, ◌∙◌}
use Rattle.octets.specs.Octets.{put, part}
use Rattle.octets.proofs.Laws.{length_part}
use Rattle.octets.proofs.copy.Goals as goal

pub returns : goal.returns
unfolding put part
returns c =
    let g = c.args in
    let fits : g.a + g.n - g.a ≡ g.n = omega arith in
    c.copy_within.ensures.after ∙ rw (fits, length_part g.s.now g.a g.n (omega arith)) refl
