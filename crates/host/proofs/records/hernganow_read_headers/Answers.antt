-- `host::records::hernganow_read_headers` meets its contract. Written by crates/host/exports. Assumes nothing.
use Rattle.host.proofs.Exports.{unwritten, written}
use Rattle.host.proofs.records.hernganow_read_headers.Goals as goal

pub returns-then-answer-ne-ANSWER : goal.returns-then-answer-ne-ANSWER
returns-then-answer-ne-ANSWER c = unwritten _ _ c.if-answer-ne-ANSWER.true c.unwritten.ensures

pub returns : goal.returns
returns c =
    let length = c.if-answer-ne-ANSWER.false in
    written _ _ length c.read_headers-found.ensures c.headers.ensures.0 c.write.ensures
