-- `ledger_receive::leave_desk` meets its contract. Assumes nothing.
use Prim.Native.Nat.{ℕ}
use mathlib.Core.List.{List}
use mathlib.Core.Path.{sym, ap}
use Rattle.refusals.specs.Table.{number_of}
use Rattle.ledger_model.specs.Step.{Save, Drop}
use Rattle.ledger_receive.proofs.Sheets.{holds-own, after}
use Rattle.ledger_receive.proofs.leave_desk.Goals as goal

pub drop-requires : goal.drop-requires
drop-requires c = sym c.requires

pub returns-in-Err : goal.returns-in-Err
returns-in-Err c =
    let g = c.args in
    let dropped = after (Drop g.desk) (holds-own g.s.now c.slice_known-1.given c.requires) c.drop.ensures in
    rw c.in-Err.is (ap (λ (t : List ℕ). (number_of c.in-Err.why, t)) dropped.holds.is-laid)

pub save-requires : goal.save-requires
save-requires c = sym c.requires

pub returns : goal.returns
returns c =
    let g = c.args in
    let saved = after (Save g.desk) (holds-own g.s.now c.slice_known-1.given c.requires) c.save.ensures in
    rw c.in_default.is (ap (λ (t : List ℕ). (0, t)) saved.holds.is-laid)
