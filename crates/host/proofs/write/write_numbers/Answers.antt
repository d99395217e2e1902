-- `host::write::write_numbers` meets its contract. The invariant: the bytes of the first i numbers are put in. Assumes nothing.
use Prim.Native.Nat.{ℕ, ◌*◌}
use native.Mathlib.Omega.{arith}
use mathlib.Core.List.{List, []}
use mathlib.Core.Path.{◌≡◌, refl, sym, ap, ◌∙◌}
use lib.ListN.{length, get_or}
use lib.Seq.{take-length}
use Rattle.octets.specs.Octets.{put, bytes_of}
use Rattle.octets.proofs.Laws.{put-none, length-put, length-bytes_of}
use Rattle.host.specs.Answer.{number_size, answer_bytes}
use Rattle.host.proofs.Bytes.{put-more}
use Rattle.host.proofs.write.write_numbers.Goals as goal

start : (s : List ℕ) → put s 0 (answer_bytes []) ≡ s
unfolding answer_bytes
start s = put-none s 0

pub loop-i-init : goal.loop-i-init
loop-i-init c = (sym (start c.args.answer.now), refl)

pub write_be-requires : goal.write_be-requires
write_be-requires c =
    omega (arith, c.requires, c.loop-i.invariant.1)

pub loop-i-preserved : goal.loop-i-preserved
loop-i-preserved c =
    let i = c.loop-i.i in
    let ns = c.args.numbers.now in
    let wrote = c.write_be.ensures in
    let more = put-more c.args.answer.now ns i c.loop-i.invariant.0 wrote (omega arith) (omega (arith, c.requires)) in
    let one = length-bytes_of number_size (get_or ns i 0) in
    let same = length-put c.loop-i.answer (number_size * i) (bytes_of number_size (get_or ns i 0)) (omega (arith, c.requires, c.loop-i.invariant.1)) in
    (more, ap (λ (l : List ℕ). length l) wrote ∙ same ∙ c.loop-i.invariant.1)

pub returns : goal.returns
returns c =
    let ns = c.args.numbers.now in
    let all : c.loop-i.i ≡ length ns = omega arith in
    c.loop-i.invariant.0 ∙ rw (all, take-length ns)
