-- `rsr_samples_text::put_number` meets its contract. Assumes nothing.
use native.Mathlib.Omega.{arith}
use mathlib.Core.Path.{ap, subst}
use lib.IntN.{ℤ}
use mir.Syntax.{w32}
use mir.ValLaws.{to_z-of_z}
use Rattle.text.specs.Text.{Puts}
use Rattle.rsr_samples_text.specs.Text.{signed_numeral, raw_bytes, number_text}
use Rattle.rsr_samples_text.proofs.put_number.Goals as goal

pub returns-then-raw : goal.returns-then-raw
unfolding number_text
returns-then-raw c =
    let e = to_z-of_z w32 c.args.z c.ranges.z in
    record { puts = rw c.if-raw.true (subst (Puts _ _ _ _) (ap raw_bytes e) c.put_raw.ensures.puts); upper_bound = omega arith }

pub returns : goal.returns
unfolding number_text
returns c =
    let e = to_z-of_z w32 c.args.z c.ranges.z in
    let p = subst (Puts _ _ _ _) (ap (λ (z : ℤ). signed_numeral z c.ending.result) e) c.put_signed.ensures.puts in
    record { puts = rw (c.if-raw.false, ← c.ending.ensures) p; upper_bound = omega arith }
