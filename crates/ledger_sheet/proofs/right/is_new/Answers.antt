-- `right::is_new` meets its contract. Assumes nothing.
use mathlib.Core.Path.{sym}
use lib.ListN.{length}
use Rattle.ledger_sheet.proofs.RowsRead.{unmarked-new}
use Rattle.ledger_sheet.proofs.right.is_new.Goals as goal

pub returns-then-marks-key-ne-MARKED : goal.returns-then-marks-key-ne-MARKED
returns-then-marks-key-ne-MARKED c =
    let given = c.args in
    sym (unmarked-new given.keys.now given.marks.now (length given.keys.now) given.key c.requires c.if-marks-key-ne-MARKED.true)
