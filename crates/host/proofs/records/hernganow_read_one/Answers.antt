-- `host::records::hernganow_read_one` meets its contract. Written by crates/host/exports. Assumes nothing.
use Rattle.answers.specs.Numbers.{plain}
use Rattle.host.proofs.Exports.{unwritten, written_as}
use Rattle.host.proofs.records.hernganow_read_one.Goals as goal

pub returns-then-answer-ne-ANSWER : goal.returns-then-answer-ne-ANSWER
returns-then-answer-ne-ANSWER c = unwritten _ _ c.if-answer-ne-ANSWER.true c.unwritten.ensures

pub returns : goal.returns
returns c =
    let length = c.if-answer-ne-ANSWER.false in
    written_as plain _ _ length c.read_one-found.ensures c.read.ensures.0 c.write.ensures
