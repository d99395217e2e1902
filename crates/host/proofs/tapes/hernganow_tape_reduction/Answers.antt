-- `host::tapes::hernganow_tape_reduction` meets its contract. Written by crates/host/exports. Assumes nothing.
use Rattle.answers.specs.Tapes.{reduction}
use Rattle.host.proofs.Exports.{unwritten, written_as}
use Rattle.host.proofs.tapes.hernganow_tape_reduction.Goals as goal

pub returns-then-answer-ne-ANSWER : goal.returns-then-answer-ne-ANSWER
returns-then-answer-ne-ANSWER c = unwritten _ _ c.if-answer-ne-ANSWER.true c.unwritten.ensures

pub returns : goal.returns
returns c =
    let length = c.if-answer-ne-ANSWER.false in
    written_as reduction _ _ length c.read_record-found.ensures c.reduction.ensures.0 c.write.ensures
