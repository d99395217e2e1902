-- `sfdu_write::write_kind` meets its contract. Assumes nothing.
use Prim.Native.Nat.{◌≤◌, ◌<◌}
use native.Mathlib.Omega.{arith}
use mathlib.Core.Path.{sym}
use lib.ListN.{length}
use Rattle.laws.proofs.Bools.{failed, passed}
use Rattle.sfdu_write.specs.Write.{size_of}
use Rattle.sfdu.proofs.Placed.{placed}
use Rattle.sfdu_write.proofs.Written.{lengths, input-refused, space-refused, written}
use Rattle.sfdu_write.proofs.write_kind.Goals as goal

pub returns-then-not-is_input : goal.returns-then-not-is_input
returns-then-not-is_input c =
    let g = c.args in sym (input-refused g.kind g.primary g.secondary.now g.value.now g.out.now
    (failed c.is_input.ensures c.if-not-is_input.true-raw))

pub overflow_add-size : goal.overflow_add-size
overflow_add-size c =
    let k = placed c.args.kind in
    let l = lengths _ _ _ (passed c.is_input.ensures c.if-not-is_input.false-raw) in
    omega (arith, c.data_value_at.ensures)

pub returns-then-out-size : goal.returns-then-out-size
returns-then-out-size c =
    let g = c.args in
    let l : length g.out.now < size_of g.kind g.value.now = omega (arith, c.data_value_at.ensures, c.if-out-size.true) in
    sym (space-refused g.kind g.primary g.secondary.now g.value.now g.out.now
    (passed c.is_input.ensures c.if-not-is_input.false-raw) l)

pub write_record-requires : goal.write_record-requires
write_record-requires c =
    let l = lengths _ _ _ (passed c.is_input.ensures c.if-not-is_input.false-raw) in
    (l.0, l.1, omega (arith, c.data_value_at.ensures, c.if-out-size.false))

pub returns : goal.returns
returns c =
    let g = c.args in
    let l : size_of g.kind g.value.now ≤ length g.out.now = omega (arith, c.data_value_at.ensures, c.if-out-size.false) in
    rw (c.data_value_at.ensures, c.write_record.ensures)
    (sym (written g.kind g.primary g.secondary.now g.value.now g.out.now (passed c.is_input.ensures c.if-not-is_input.false-raw) l))
