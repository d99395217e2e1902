-- `host::sheets::hernganow_is_sheet` meets its contract. Written by crates/host/exports. Assumes nothing.
use Rattle.answers.specs.Numbers.{flagged}
use Rattle.host.proofs.Exports.{unwritten, written_as}
use Rattle.host.proofs.sheets.hernganow_is_sheet.Goals as goal

pub returns-then-answer-ne-ANSWER : goal.returns-then-answer-ne-ANSWER
returns-then-answer-ne-ANSWER c = unwritten _ _ c.if-answer-ne-ANSWER.true c.unwritten.ensures

pub returns : goal.returns
returns c =
    let length = c.if-answer-ne-ANSWER.false in
    written_as flagged _ _ length c.is_sheet-found.ensures c.is_sheet.ensures.same c.write_few.ensures
