-- `sfdu_write::write_block` meets its contract. Assumes nothing.
use native.Mathlib.Omega.{arith}
use Rattle.octets.specs.Octets.{bytes_of}
use Rattle.octets.proofs.Laws.{length-bytes_of}
use Rattle.octets.proofs.Puts.{put_next}
use Rattle.sfdu_write.specs.Write.{block}
use Rattle.sfdu_write.proofs.write_block.Goals as goal

pub returns : goal.returns
unfolding block
returns c =
    let g = c.args in
    let l = length-bytes_of 2 g.class in
    let m = length-bytes_of 2 g.size in
    put_next g.out.now g.at (bytes_of 2 g.class) _ (bytes_of 2 g.size) c.write_be.ensures c.write_be-2.ensures
    (omega arith) (omega arith)
