-- `sfdu_write::write_primary` meets its contract. Assumes nothing.
use native.Mathlib.Omega.{arith}
use lib.ListN.{length-set}
use Rattle.sfdu_write.specs.Write.{primary_block, block}
use Rattle.octets.proofs.Puts.{put_next, sets-put}
use Rattle.sfdu.specs.Nesting.{primary_at, primary_value_at, primary_type, primary_length}
use Rattle.sfdu.specs.Read.{primary_words}
use Rattle.sfdu_write.proofs.Written.{length-block}
use Rattle.sfdu_write.proofs.write_primary.Goals as goal

pub bounds-out : goal.bounds-out
bounds-out c = simp length-set (omega arith)

pub bounds-out-2 : goal.bounds-out-2
bounds-out-2 c = simp length-set (omega arith)

pub bounds-out-3 : goal.bounds-out-3
bounds-out-3 c = simp length-set (omega arith)

pub returns : goal.returns
unfolding primary_block
returns c =
    let g = c.args in
    let t = c.write_block.new.out in
    let l = length-block primary_type primary_length in
    let stored = sets-put t primary_value_at (primary_words g.p) (omega arith) in
    put_next g.out.now primary_at (block primary_type primary_length) primary_value_at (primary_words g.p) c.write_block.ensures stored
    (omega arith) (omega arith)
