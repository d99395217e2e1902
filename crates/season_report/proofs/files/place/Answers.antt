-- `season_report::files::place` meets its contract: an old sheet converted, a file as it stands, or none. Assumes nothing.
use native.Mathlib.Omega.{arith}
use mathlib.Core.Path.{◌≡◌, refl, sym, ◌∙◌}
use lib.ListN.{length}
use borrow.Author.Tests.{ne_eqb}
use Rattle.refusals.specs.Table.{number_of}
use Rattle.refusals.proofs.Laws.{number-positive}
use Rattle.ledger_convert.specs.Old as Old
use Rattle.season_report.proofs.Sheets.{found-sheet, found-none, placed-old, placed-none, placed-whole}
use Rattle.season_report.proofs.files.place.Goals as goal

pub returns-in-Ok : goal.returns-in-Ok
returns-in-Ok c =
    let given = c.args in
    let long : length given.file.now ≡ Old.sheet_size = omega arith in
    found-sheet given.file.now given.slot.now (placed-old given.file.now given.slot.now _ long c.convert.ensures) (rw c.in-Ok.is)

pub returns-in-Err : goal.returns-in-Err
returns-in-Err c =
    let given = c.args in
    let long : length given.file.now ≡ Old.sheet_size = omega arith in
    found-none given.file.now given.slot.now (placed-old given.file.now given.slot.now _ long c.convert.ensures)
    (rw c.in-Err.is (ne_eqb (number_of c.in-Err.field-0) 0 (number-positive c.in-Err.field-0)))

pub returns-then-file-slot : goal.returns-then-file-slot
returns-then-file-slot c =
    let given = c.args in
    found-none given.file.now given.slot.now (placed-none given.file.now given.slot.now (λ e. omega arith) (λ e. omega arith)) refl

pub returns-then-not-is_right : goal.returns-then-not-is_right
returns-then-not-is_right c =
    let given = c.args in
    let same = c.copy_from_slice.ensures.after in
    let long : length given.file.now ≡ length given.slot.now = omega arith in
    let wrong = rw same at (sym c.is_sheet-is_right.ensures ∙ c.if-not-is_right.true) in
    rw same (found-none given.file.now given.slot.now (placed-whole given.file.now given.slot.now (λ e. omega arith) long) wrong)

pub returns : goal.returns
returns c =
    let given = c.args in
    let same = c.copy_from_slice.ensures.after in
    let long : length given.file.now ≡ length given.slot.now = omega arith in
    let right = rw same at (sym c.is_sheet-is_right.ensures ∙ c.if-not-is_right.false) in
    rw same (found-sheet given.file.now given.slot.now (placed-whole given.file.now given.slot.now (λ e. omega arith) long) right)
