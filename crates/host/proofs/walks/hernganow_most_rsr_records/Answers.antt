-- `host::walks::hernganow_most_rsr_records` meets its contract. Written by crates/host/exports. Assumes nothing.
use Rattle.answers.specs.Numbers.{counted}
use Rattle.host.proofs.Exports.{unwritten, written_as}
use Rattle.host.proofs.walks.hernganow_most_rsr_records.Goals as goal

pub returns-then-answer-ne-ANSWER : goal.returns-then-answer-ne-ANSWER
returns-then-answer-ne-ANSWER c = unwritten _ _ c.if-answer-ne-ANSWER.true c.unwritten.ensures

pub returns : goal.returns
returns c =
    let length = c.if-answer-ne-ANSWER.false in
    written_as counted _ _ length c.most_records-found.ensures c.count.ensures.same c.write_few.ensures
