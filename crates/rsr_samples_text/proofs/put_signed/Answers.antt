-- `rsr_samples_text::put_signed` meets its contract: the bits say the sign. Assumes nothing.
use Prim.Native.Nat.{◌≤◌, ◌<◌}
use native.Mathlib.Omega.{arith}
use mathlib.Core.Path.{ap, ◌∙◌}
use lib.ListN.{length-set}
use mir.Syntax.{w32}
use mir.ValLaws.{to_z-of_z}
use Rattle.text.proofs.Laid.{nothing, then, then-byte}
use Rattle.sfdu_samples.specs.Bits.{bits_of}
use Rattle.rsr_samples_text.specs.Text.{minus}
use Rattle.rsr_samples_text.proofs.Values.{not_negative, negative}
use Rattle.rsr_samples_text.proofs.put_signed.Goals as goal

pub returns-then-bits-lt-NEGATIVE : goal.returns-then-bits-lt-NEGATIVE
returns-then-bits-lt-NEGATIVE c =
    let z = c.args.z in
    let e = c.to_bits-bits.ensures ∙ ap bits_of (to_z-of_z w32 z c.ranges.z) in
    let h : bits_of z < 2147483648 = omega (arith, e) in
    record { puts = rw (← not_negative z c.args.after c.ranges.z h, ← e) c.put_numeral.ensures.puts; upper_bound = omega arith }

pub put_numeral-requires-2 : goal.put_numeral-requires-2
put_numeral-requires-2 c = simp length-set (omega arith)

pub shape_of-out : goal.shape_of-out
shape_of-out c = c.out-2-1.given ∙ simp length-set

pub returns : goal.returns
returns c =
    let z = c.args.z in
    let e = c.to_bits-bits.ensures ∙ ap bits_of (to_z-of_z w32 z c.ranges.z) in
    let h : 2147483648 ≤ bits_of z = omega (arith, e) in
    let sign = then-byte minus (nothing c.args.out.now c.args.at) (omega arith) in
    let both = then sign c.put_numeral-2.ensures.puts (omega arith) in
    record { puts = rw (← negative z c.args.after c.ranges.z h, ← e) both; upper_bound = omega arith }
