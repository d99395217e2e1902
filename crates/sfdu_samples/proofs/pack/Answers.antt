-- `sfdu_samples::pack` meets its contract. Assumes nothing.
use Rattle.std.proofs.Common.{◌≡◌, ◌*◌, ◌/◌, ◌%◌, ◌≤◌, true, length, div-mul-le_self, lit<}
use Rattle.laws.proofs.Bools.{passed, failed}
use Rattle.sfdu_samples.specs.Packing.{per_sample_word, all_coded}
use Rattle.sfdu_samples.specs.Rates.{is_listed}
use Rattle.sfdu_samples.specs.inner.Widths.{IsWidth}
use Rattle.sfdu_samples.proofs.Judged.{per-some, too_short, long-enough, pack-19, pack-34, pack-37, pack-35, pack-accepts}
use Rattle.sfdu_samples.proofs.Widths.{listed-width}
use Rattle.sfdu_samples.proofs.pack.Goals as goal
use Rattle.sfdu_samples.proofs.pack.Goals.{Else-not-is_listed, Else-samples-per-ne0, Else-not-is_coded, Else-out-words}

-- What holds past each test.
listed : (c : Else-not-is_listed) → is_listed c.args.size c.args.rate ≡ true
listed c = passed c.is_listed.ensures c.if-not-is_listed.false-raw

width : (c : Else-not-is_listed) → IsWidth c.args.size
width c = listed-width _ c.args.rate (listed c)

whole : (c : Else-samples-per-ne0)
    → length c.args.samples.now % per_sample_word c.args.size ≡ 0
whole c = rw c.per_sample_word-per.ensures at c.if-samples-per-ne0.false

coded : (c : Else-not-is_coded) → all_coded c.args.size c.args.samples.now ≡ true
coded c = passed c.is_coded.ensures c.if-not-is_coded.false-raw

room : (c : Else-out-words)
    →
    length c.args.samples.now / per_sample_word c.args.size * 4 ≤ length c.args.out.now
room c = long-enough _ _ 4 (lit< tt) (rw c.per_sample_word-per.ensures at c.if-out-words.false)

pub returns-then-not-is_listed : goal.returns-then-not-is_listed
returns-then-not-is_listed c =
    pack-19 c.args.size c.args.rate c.args.samples.now c.args.out.now (failed c.is_listed.ensures c.if-not-is_listed.true-raw)

pub invariant_of-width : goal.invariant_of-width
invariant_of-width c = record { fills = width (goal.at.invariant_of-width c).Else-not-is_listed }

pub nonzero_rem-samples : goal.nonzero_rem-samples
nonzero_rem-samples c = rw c.per_sample_word-per.ensures (per-some _ (width (goal.at.nonzero_rem-samples c).Else-not-is_listed))

pub returns-then-samples-per-ne0 : goal.returns-then-samples-per-ne0
returns-then-samples-per-ne0 c =
    pack-34 c.args.size c.args.rate c.args.samples.now c.args.out.now (listed (goal.at.returns-then-samples-per-ne0 c).Else-not-is_listed)
    (rw c.per_sample_word-per.ensures at c.if-samples-per-ne0.true)

pub returns-then-not-is_coded : goal.returns-then-not-is_coded
returns-then-not-is_coded c =
    pack-37 c.args.size c.args.rate c.args.samples.now c.args.out.now (listed (goal.at.returns-then-not-is_coded c).Else-not-is_listed)
    (whole (goal.at.returns-then-not-is_coded c).Else-samples-per-ne0)
    (failed c.is_coded.ensures c.if-not-is_coded.true-raw)

pub nonzero_div-words : goal.nonzero_div-words
nonzero_div-words c = rw c.per_sample_word-per.ensures (per-some _ (width (goal.at.nonzero_div-words c).Else-not-is_listed))

pub returns-then-out-words : goal.returns-then-out-words
returns-then-out-words c =
    pack-35 c.args.size c.args.rate c.args.samples.now c.args.out.now (listed (goal.at.returns-then-out-words c).Else-not-is_listed)
    (whole (goal.at.returns-then-out-words c).Else-samples-per-ne0) (coded (goal.at.returns-then-out-words c).Else-not-is_coded)
    (too_short _ _ 4 (lit< tt) (rw c.per_sample_word-per.ensures at c.if-out-words.true))

pub pack_sized-requires : goal.pack_sized-requires
pack_sized-requires c =
    let per = c.per_sample_word-per.ensures in (
      rw per (div-mul-le_self _ _),
      rw per (room (goal.at.pack_sized-requires c).Else-out-words),
      coded (goal.at.pack_sized-requires c).Else-not-is_coded,
    )

pub returns : goal.returns
returns c =
    let per = c.per_sample_word-per.ensures in
    rw per
    (pack-accepts c.args.size c.args.rate c.args.samples.now c.args.out.now
    (listed (goal.at.returns c).Else-not-is_listed) (whole (goal.at.returns c).Else-samples-per-ne0) (coded (goal.at.returns c).Else-not-is_coded) _
    (room (goal.at.returns c).Else-out-words) (rw per at c.pack_sized.ensures))
