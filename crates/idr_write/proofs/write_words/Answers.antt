-- `idr_write::write_words` meets its contract. The invariant: the first i words are written. Assumes nothing.
use Prim.Native.Nat.{◌*◌}
use native.Mathlib.Omega.{arith}
use mathlib.Core.Path.{◌≡◌, refl, sym}
use lib.ListN.{length, get_or, take}
use lib.Seq.{take_all, length-take-le}
use Rattle.octets.specs.Octets.{bytes_of}
use Rattle.octets.proofs.Laws.{put-none, length-bytes_of}
use Rattle.octets.proofs.Puts.{put_next}
use Rattle.idr.specs.Words.{word_size}
use Rattle.idr_write.specs.Write.{word_bytes}
use Rattle.idr_write.proofs.Written.{length-word_bytes, word_bytes-more}
use Rattle.idr_write.proofs.write_words.Goals as goal

pub loop-i-init : goal.loop-i-init
unfolding word_bytes
loop-i-init c = (sym (put-none _ 0), refl)

pub loop-i-preserved : goal.loop-i-preserved
loop-i-preserved c =
    let g = c.args in
    let w = g.words.now in
    let x = get_or w c.loop-i.i 0 in
    let l : length (take c.loop-i.i w) ≡ c.loop-i.i = length-take-le c.loop-i.i w (omega arith) in
    let stored = rw c.from.ensures at c.write_be.ensures in
    let next = put_next g.out.now 0 (word_bytes (take c.loop-i.i w)) (c.loop-i.i * word_size) (bytes_of word_size x) c.loop-i.invariant.0 stored
    (omega (arith, length-word_bytes (take c.loop-i.i w))) (omega (arith, length-bytes_of word_size x)) in
    (rw (word_bytes-more w c.loop-i.i (omega arith)) next, omega arith)

pub returns : goal.returns
returns c =
    let g = c.args in
    let all : take c.loop-i.i g.words.now ≡ g.words.now = take_all c.loop-i.i g.words.now (omega arith) in
    rw all at c.loop-i.invariant.0
