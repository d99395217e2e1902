-- `host::walks::hernganow_step` meets its contract. Written by crates/host/exports. Assumes nothing.
use Rattle.answers.specs.Streams.{stepped}
use Rattle.host.proofs.Exports.{unwritten, written_as}
use Rattle.host.proofs.walks.hernganow_step.Goals as goal

pub returns-then-answer-ne-ANSWER : goal.returns-then-answer-ne-ANSWER
returns-then-answer-ne-ANSWER c = unwritten _ _ c.if-answer-ne-ANSWER.true c.unwritten.ensures

pub returns : goal.returns
returns c =
    let length = c.if-answer-ne-ANSWER.false in
    written_as stepped _ _ length c.step-found.ensures c.step.ensures.0 c.write.ensures
