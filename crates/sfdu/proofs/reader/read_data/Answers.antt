-- `sfdu::reader::read_data` meets its contract. Assumes nothing.
use mathlib.Core.Path.{◌∙◌}
use native.Mathlib.Omega.{arith}
use Rattle.laws.proofs.Bools.{failed, passed}
use Rattle.refusals.specs.Judge.{judge}
use Rattle.sfdu.proofs.Placed.{placed}
use Rattle.sfdu.proofs.reader.read_data.Goals as goal

pub returns-then-not-has_data_type : goal.returns-then-not-has_data_type
unfolding judge
returns-then-not-has_data_type c =
    rw (failed c.has_data_type.ensures c.if-not-has_data_type.true-raw) (c.refused.ensures ∙ rw c.data_at.ensures)

pub overflow_add-data_at : goal.overflow_add-data_at
overflow_add-data_at c =
    let k = placed c.args.kind in omega (arith, c.data_at-then-not-has_data_length.ensures)

pub returns-then-not-has_data_length : goal.returns-then-not-has_data_length
unfolding judge
returns-then-not-has_data_length c =
    rw (
      passed c.has_data_type.ensures c.if-not-has_data_type.false-raw,
      failed c.has_data_length.ensures c.if-not-has_data_length.true-raw,
    ) (c.refused-then-not-has_data_length.ensures ∙ rw c.data_at-then-not-has_data_length.ensures)

pub read_primary-primary-requires : goal.read_primary-primary-requires
read_primary-primary-requires c =
    let k = placed c.args.kind in omega arith

pub returns : goal.returns
unfolding judge
returns c =
    rw (
      passed c.has_data_type.ensures c.if-not-has_data_type.false-raw,
      passed c.has_data_length.ensures c.if-not-has_data_length.false-raw,
      c.requires.0,
    ) (cc c.read_primary-primary.ensures)
