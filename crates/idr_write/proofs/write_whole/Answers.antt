-- `idr_write::write_whole` meets its contract. Assumes nothing.
use native.Mathlib.Omega.{arith}
use mathlib.Core.List.{◌++◌}
use mathlib.Core.Path.{◌∙◌}
use lib.ListN.{length-append}
use Rattle.octets.proofs.Puts.{put_next, put_whole}
use Rattle.idr.specs.Words.{samples_at}
use Rattle.idr_write.specs.Write.{word_bytes}
use Rattle.idr_write.proofs.Written.{length-word_bytes}
use Rattle.idr_write.proofs.write_whole.Goals as goal

pub returns : goal.returns
returns c =
    let g = c.args in
    let w = g.words.now in
    let t = g.samples.now in
    put_next g.out.now 0 (word_bytes w) samples_at t c.write_words.ensures c.copy_in.ensures (omega (arith, length-word_bytes w))
    (omega arith)
    ∙ put_whole g.out.now (word_bytes w ++ t) (omega (arith, length-append (word_bytes w) t, length-word_bytes w))
