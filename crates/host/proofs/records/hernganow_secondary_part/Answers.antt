-- `host::records::hernganow_secondary_part` meets its contract. It asks read one, whose answer tells where the part lies. Assumes nothing.
use Rattle.host.proofs.Exports.{unwritten, written}
use Rattle.host.proofs.Parts.{secondary-placed}
use Rattle.host.proofs.records.hernganow_secondary_part.Goals as goal

pub returns-then-answer-ne-ANSWER : goal.returns-then-answer-ne-ANSWER
returns-then-answer-ne-ANSWER c = unwritten _ _ c.if-answer-ne-ANSWER.true c.unwritten.ensures

pub returns : goal.returns
returns c =
    let length = c.if-answer-ne-ANSWER.false in
    let words = secondary-placed _ c.read_one-found.result c.read_one-found.ensures in
    written _ _ length words c.secondary.ensures.same c.write_few.ensures
