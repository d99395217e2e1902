-- `rsr_samples_text::put_raw` meets its contract: four bytes, each behind the one before. Assumes nothing.
use Prim.Native.Nat.{◌/◌, ◌%◌}
use native.Mathlib.Omega.{arith}
use mathlib.Core.Path.{ap, ◌∙◌}
use lib.ListN.{length-set}
use mir.Syntax.{w32}
use mir.ValLaws.{to_z-of_z}
use Rattle.octets.specs.Octets.{bytes_of}
use Rattle.text.proofs.Laid.{nothing, then-byte}
use Rattle.sfdu_samples.specs.Bits.{bits_of}
use Rattle.rsr_samples_text.specs.Text.{raw_bytes}
use Rattle.rsr_samples_text.proofs.put_raw.Goals as goal

pub bounds-out-b : goal.bounds-out-b
bounds-out-b c = simp length-set (omega arith)

pub bounds-out-c : goal.bounds-out-c
bounds-out-c c = simp length-set (omega arith)

pub bounds-out-d : goal.bounds-out-d
bounds-out-d c = simp length-set (omega arith)

pub returns : goal.returns
unfolding raw_bytes bytes_of
returns c =
    let v = c.to_bits-bits.result in
    let e = c.to_bits-bits.ensures ∙ ap bits_of (to_z-of_z w32 c.args.z c.ranges.z) in
    let one = then-byte (v % 256) (nothing c.args.out.now c.args.at) (omega arith) in
    let two = then-byte (v / 256 % 256) one (omega arith) in
    let three = then-byte (v / 256 / 256 % 256) two (omega arith) in
    let four = then-byte (v / 256 / 256 / 256 % 256) three (omega arith) in
    record { puts = rw (← e) four; upper_bound = omega arith }
