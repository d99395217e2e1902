-- `host::sheets::hernganow_receive` meets its contract. It is lent two slices to write in: the list, and the sheet. Assumes nothing.
use Prim.Native.Nat.{ℕ}
use mathlib.Core.List.{List}
use mathlib.Core.Path.{ap}
use Rattle.host.proofs.Exports.{unwritten-on, written_on}
use Rattle.host.proofs.sheets.hernganow_receive.Goals as goal

pub returns-then-answer-ne-ANSWER : goal.returns-then-answer-ne-ANSWER
returns-then-answer-ne-ANSWER c = unwritten-on _ _ _ _ c.if-answer-ne-ANSWER.true c.unwritten.ensures

pub returns : goal.returns
returns c =
    let length = c.if-answer-ne-ANSWER.false in
    let left = ap {B = List ℕ × (List ℕ × List ℕ)} (λ (t : List ℕ × List ℕ × List ℕ). (t.0, (t.1, t.2))) c.receive-found.ensures in
    written_on _ _ _ _ length left c.received.ensures.0 c.write.ensures
