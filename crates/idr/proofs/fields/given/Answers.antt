-- `idr::fields::given` meets its contract. Group by group. Assumes nothing.
use Rattle.laws.proofs.Bools.{failed, passed}
use Rattle.idr.specs.Fields.{origin_of, time_of, recorder_of, reduction_of, status_of, count_of}
use Rattle.idr.specs.Read.{origin_words, time_words, recorder_words, reduction_words, status_words, count_words}
use Rattle.idr.proofs.Given.{joined}
use Rattle.idr.proofs.fields.given.Goals as goal

pub returns-then-not-is_tagged : goal.returns-then-not-is_tagged
returns-then-not-is_tagged c = rw (failed c.is_tagged.ensures c.if-not-is_tagged.true-raw)

pub returns : goal.returns
returns c =
    let w = c.args.w.now in
    rw (passed c.is_tagged.ensures c.if-not-is_tagged.false-raw)
    (joined (origin_words c.origin_of.result) (origin_of w)
    (time_words c.time_of.result) (time_of w)
    (recorder_words c.recorder_of.result) (recorder_of w)
    (reduction_words c.reduction_of.result) (reduction_of w)
    (status_words c.status_of.result) (status_of w)
    (count_words c.count_of.result) (count_of w)
    c.origin_of.ensures c.time_of.ensures c.recorder_of.ensures c.reduction_of.ensures
    c.status_of.ensures c.count_of.ensures)
