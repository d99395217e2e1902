-- `sfdu_samples::unpacks::unpack_data` meets its contract. Assumes nothing.
use Rattle.std.proofs.Common.{◌≡◌, ◌*◌, ◌/◌, ◌≤◌, true, length, arith}
use Rattle.laws.proofs.Bools.{passed, failed}
use Rattle.sfdu_samples.specs.Packing.{per_sample_word}
use Rattle.sfdu_samples.specs.Rates.{is_listed}
use Rattle.sfdu_samples.specs.inner.Widths.{IsWidth}
use Rattle.sfdu_samples.proofs.Judged.{per-some, too_short, long-enough, data-19, data-34, data-35, data-accepts}
use Rattle.sfdu_samples.proofs.Widths.{listed-width}
use Rattle.sfdu_samples.proofs.unpacks.unpack_data.Goals as goal
use Rattle.sfdu_samples.proofs.unpacks.unpack_data.Goals.{Else-not-is_listed, Else-list-per}

-- Past the first test the pair is listed, so that the size is a width.
listed : (c : Else-not-is_listed) → is_listed c.args.size c.args.rate ≡ true
listed c = passed c.is_listed.ensures c.if-not-is_listed.false-raw

width : (c : Else-not-is_listed) → IsWidth c.args.size
width c = listed-width _ c.args.rate (listed c)

-- Past the last test the list has room.
room : (c : Else-list-per)
    → length c.args.d.now / 4 * per_sample_word c.args.size ≤ length c.args.list.now
room c =
    let w = listed-width _ c.args.rate (passed c.is_listed.ensures c.if-not-is_listed.false-raw) in
    long-enough _ _ _ (per-some _ w) (rw c.per_sample_word-per.ensures at c.if-list-per.false)

pub returns-then-not-is_listed : goal.returns-then-not-is_listed
returns-then-not-is_listed c =
    data-19 c.args.size c.args.rate c.args.d.now c.args.list.now (failed c.is_listed.ensures c.if-not-is_listed.true-raw)

pub returns-then-d-ne0 : goal.returns-then-d-ne0
returns-then-d-ne0 c =
    data-34 c.args.size c.args.rate c.args.d.now c.args.list.now (listed (goal.at.returns-then-d-ne0 c).Else-not-is_listed) c.if-d-ne0.true

pub invariant_of-width : goal.invariant_of-width
invariant_of-width c = record { fills = width (goal.at.invariant_of-width c).Else-not-is_listed }

pub nonzero_div-list : goal.nonzero_div-list
nonzero_div-list c = rw c.per_sample_word-per.ensures (per-some _ (width (goal.at.nonzero_div-list c).Else-not-is_listed))

pub returns-then-list-per : goal.returns-then-list-per
returns-then-list-per c =
    let w = width (goal.at.returns-then-list-per c).Else-not-is_listed in
    data-35 c.args.size c.args.rate c.args.d.now c.args.list.now (listed (goal.at.returns-then-list-per c).Else-not-is_listed) c.if-d-ne0.false
    (too_short _ _ _ (per-some _ w) (rw c.per_sample_word-per.ensures at c.if-list-per.true))

pub unpack_sized-requires : goal.unpack_sized-requires
unpack_sized-requires c = (omega arith, room (goal.at.unpack_sized-requires c).Else-list-per)

pub overflow_mul-result : goal.overflow_mul-result
overflow_mul-result c =
    rw c.per_sample_word-per.ensures (omega (arith, room (goal.at.overflow_mul-result c).Else-list-per, c.well_formed.1.1.1.0.0))

pub returns : goal.returns
returns c =
    rw c.per_sample_word-per.ensures
    (data-accepts c.args.size c.args.rate c.args.d.now c.args.list.now
    (listed (goal.at.returns c).Else-not-is_listed) c.if-d-ne0.false _ (room (goal.at.returns c).Else-list-per) c.unpack_sized.ensures)
