-- `sfdu_write::write_head` meets its contract. Each piece is put behind the one before. Assumes nothing.
use native.Mathlib.Omega.{arith}
use mathlib.Core.List.{◌++◌}
use lib.ListN.{length-append}
use Rattle.sfdu_write.specs.Write.{head_bytes, label_bytes, primary_block, block}
use Rattle.octets.proofs.Puts.{put_next}
use Rattle.sfdu.specs.Nesting.{aggregation_at, primary_at, secondary_at, aggregation_type, aggregation_length, secondary_type, secondary_length}
use Rattle.sfdu_write.proofs.Written.{length_label, length-block, length-primary}
use Rattle.sfdu_write.proofs.write_head.Goals as goal

pub returns : goal.returns
unfolding head_bytes
returns c =
    let g = c.args in
    let out = g.out.now in
    let label = label_bytes g.kind g.size in
    let aggregation = block aggregation_type (aggregation_length g.kind) in
    let primary = primary_block g.primary in
    let secondary = block (secondary_type g.kind) (secondary_length g.kind) in
    let l = length_label g.kind g.size in
    let m = length-block aggregation_type (aggregation_length g.kind) in
    let p = length-primary g.primary in
    let s = length-block (secondary_type g.kind) (secondary_length g.kind) in
    let second = rw c.aggregation_length.ensures at c.write_block.ensures in
    let last = rw (c.secondary_type.ensures, c.secondary_length.ensures) at c.write_block-2.ensures in
    let one = put_next out 0 label aggregation_at aggregation c.write_label.ensures second (omega arith) (omega arith) in
    let two = put_next out 0 (label ++ aggregation) primary_at primary one c.write_primary.ensures
    (omega (arith, length-append label aggregation)) (omega arith) in
    put_next out 0 (label ++ aggregation ++ primary) secondary_at secondary two last
    (omega (arith, length-append (label ++ aggregation) primary, length-append label aggregation)) (omega arith)
