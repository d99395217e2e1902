-- `host::sheets::hernganow_enrol` meets its contract. Written by crates/host/exports. Assumes nothing.
use Rattle.host.proofs.Exports.{unwritten-on, written_on}
use Rattle.host.proofs.sheets.hernganow_enrol.Goals as goal

pub returns-then-answer-ne-ANSWER : goal.returns-then-answer-ne-ANSWER
returns-then-answer-ne-ANSWER c = unwritten-on _ _ _ _ c.if-answer-ne-ANSWER.true c.unwritten.ensures

pub returns : goal.returns
returns c =
    let length = c.if-answer-ne-ANSWER.false in
    written_on _ _ _ _ length c.enrol-found.ensures c.row.ensures.same c.write_few.ensures
