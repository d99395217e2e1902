-- `host::sheets::hernganow_first_gap` meets its contract. Written by crates/host/exports. Assumes nothing.
use Rattle.answers.specs.Numbers.{with_none}
use Rattle.host.proofs.Exports.{unwritten, written-asked}
use Rattle.host.proofs.sheets.hernganow_first_gap.Goals as goal

pub returns-then-answer-ne-ANSWER : goal.returns-then-answer-ne-ANSWER
returns-then-answer-ne-ANSWER c = unwritten _ _ c.if-answer-ne-ANSWER.true c.unwritten.ensures

pub returns : goal.returns
returns c =
    let length = c.if-answer-ne-ANSWER.false in
    written-asked (with_none 3) _ _ length c.first_gap-found.ensures c.gap.ensures.same c.write_few.ensures
