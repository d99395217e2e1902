-- `sfdu_write::write_record` meets its contract: each piece is put behind the one before. Assumes nothing.
use native.Mathlib.Omega.{arith}
use Prim.Native.Nat.{◌+◌}
use mathlib.Core.List.{◌++◌}
use lib.ListN.{length, length-append}
use Rattle.octets.proofs.Puts.{put_next}
use Rattle.sfdu.specs.Nesting.{secondary_value_at, data_at, data_value_at, data_type}
use Rattle.sfdu_write.specs.Write.{record_bytes, head_bytes, block}
use Rattle.sfdu.proofs.Placed.{placed}
use Rattle.sfdu_write.proofs.Written.{length-head, length-block}
use Rattle.sfdu_write.proofs.write_record.Goals as goal

pub write_head-requires : goal.write_head-requires
write_head-requires c =
    let k = placed c.args.kind in (omega (arith, c.data_value_at-at.ensures), omega arith)

pub copy_in-requires : goal.copy_in-requires
copy_in-requires c =
    let k = placed c.args.kind in omega arith

pub write_block-requires : goal.write_block-requires
write_block-requires c =
    let k = placed c.args.kind in omega (arith, c.data_at.ensures)

pub returns : goal.returns
unfolding record_bytes
returns c =
    let g = c.args in
    let k = placed g.kind in
    let out = g.out.now in
    let value = g.value.now in
    let secondary = g.secondary.now in
    let size = data_value_at g.kind + length value in
    let head = head_bytes g.kind g.primary size in
    let label = block data_type (length value) in
    let l = length-head g.kind g.primary size in
    let m = length-block data_type (length value) in
    let first = rw c.data_value_at-at.ensures at c.write_head.ensures in
    let third = rw c.data_at.ensures at c.write_block.ensures in
    let last = rw c.data_value_at-at.ensures at c.copy_in-2.ensures in
    let one = put_next out 0 head secondary_value_at secondary first c.copy_in.ensures (omega arith) (omega arith) in
    let two = put_next out 0 (head ++ secondary) (data_at g.kind) label one third (omega (arith, length-append head secondary)) (omega arith) in
    put_next out 0 (head ++ secondary ++ label) (data_value_at g.kind) value two last
    (omega (arith, length-append (head ++ secondary) label, length-append head secondary)) (omega arith)
