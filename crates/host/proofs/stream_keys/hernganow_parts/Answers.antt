-- `host::stream_keys::hernganow_parts` meets its contract. Written by crates/host/exports. Assumes nothing.
use Rattle.answers.specs.Numbers.{plain}
use Rattle.host.proofs.Exports.{unwritten, written_as}
use Rattle.host.proofs.stream_keys.hernganow_parts.Goals as goal

pub returns-then-answer-ne-ANSWER : goal.returns-then-answer-ne-ANSWER
returns-then-answer-ne-ANSWER c = unwritten _ _ c.if-answer-ne-ANSWER.true c.unwritten.ensures

pub returns : goal.returns
returns c =
    let length = c.if-answer-ne-ANSWER.false in
    written_as plain _ _ length c.parts-found.ensures c.parts.ensures.0 c.write.ensures
