-- `host::walks::hernganow_walk` meets its contract. Written by crates/host/exports. Assumes nothing.
use Rattle.answers.specs.Numbers.{given}
use Rattle.host.proofs.Exports.{unwritten, written_as}
use Rattle.host.proofs.walks.hernganow_walk.Goals as goal

pub returns-then-answer-ne-ANSWER : goal.returns-then-answer-ne-ANSWER
returns-then-answer-ne-ANSWER c = unwritten _ _ c.if-answer-ne-ANSWER.true c.unwritten.ensures

pub returns : goal.returns
returns c =
    let length = c.if-answer-ne-ANSWER.false in
    written_as given _ _ length c.walk-found.ensures c.walked.ensures.0 c.write.ensures
