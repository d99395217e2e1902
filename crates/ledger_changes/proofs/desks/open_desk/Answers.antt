-- `desks::open_desk` meets its contract. Assumes nothing.
use native.Mathlib.Omega.{arith}
use mathlib.Core.Path.{◌∙◌}
use lib.ListN.{length-set}
use Rattle.ledger_layout.proofs.Writers.{open-on}
use Rattle.ledger_changes.proofs.Written.{open-written}
use Rattle.ledger_changes.proofs.desks.open_desk.Goals as goal

pub bounds-s-a-2 : goal.bounds-s-a-2
bounds-s-a-2 c = simp length-set (omega arith)

pub clear-requires : goal.clear-requires
clear-requires c = simp length-set (omega arith)

pub copy-requires : goal.copy-requires
copy-requires c =
    let kept = simp length-set at c.clear.auto.s in
    (omega arith, omega arith)

pub copy-requires-2 : goal.copy-requires-2
copy-requires-2 c =
    let kept = simp length-set at c.clear.auto.s in
    let kept-2 = c.copy.auto.s in
    (omega arith, omega arith)

pub shape_of-s : goal.shape_of-s
shape_of-s c =
    c.copy-2.auto.s ∙ c.copy.auto.s ∙ (simp length-set at c.clear.auto.s)

pub returns : goal.returns
returns c =
    let desk = c.desk_at-a.ensures in
    let row = c.row_at-from.ensures in
    let pre = c.requires in
    open-written _ _ _ pre.0.1 pre.1 (rw desk at c.clear.ensures) pre.2 (rw (desk, row) at c.copy.ensures)
    (rw (desk, row) at c.copy-2.ensures)
    ∙ open-on _ c.slice_known-1.given pre.0.0 _ _ pre.1 pre.2
