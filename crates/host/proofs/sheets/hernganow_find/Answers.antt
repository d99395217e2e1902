-- `host::sheets::hernganow_find` meets its contract. Written by crates/host/exports. Assumes nothing.
use Rattle.answers.specs.Numbers.{plain}
use Rattle.host.proofs.Exports.{unwritten, written-asked}
use Rattle.host.proofs.sheets.hernganow_find.Goals as goal

pub returns-then-answer-ne-ANSWER : goal.returns-then-answer-ne-ANSWER
returns-then-answer-ne-ANSWER c = unwritten _ _ c.if-answer-ne-ANSWER.true c.unwritten.ensures

pub returns : goal.returns
returns c =
    let length = c.if-answer-ne-ANSWER.false in
    written-asked plain _ _ length c.find-found.ensures c.row.ensures.same c.write_few.ensures
