-- `host::receivers::hernganow_agreed_gain` meets its contract. Written by crates/host/exports. Assumes nothing.
use Rattle.host.proofs.Exports.{unwritten, written}
use Rattle.host.proofs.receivers.hernganow_agreed_gain.Goals as goal

pub returns-then-answer-ne-ANSWER : goal.returns-then-answer-ne-ANSWER
returns-then-answer-ne-ANSWER c = unwritten _ _ c.if-answer-ne-ANSWER.true c.unwritten.ensures

pub returns : goal.returns
returns c =
    let length = c.if-answer-ne-ANSWER.false in
    written _ _ length c.agreed_gain-found.ensures c.gain.ensures.same c.write_few.ensures
