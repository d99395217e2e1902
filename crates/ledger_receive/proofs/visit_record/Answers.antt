-- `ledger_receive::visit_record` meets its contract. Assumes nothing.
use Prim.Native.Nat.{ℕ}
use mathlib.Core.List.{List}
use mathlib.Core.Path.{sym, ap, ◌∙◌}
use Rattle.ledger_layout.specs.Layout.{book_of}
use Rattle.ledger_receive.specs.inner.Calls.{brought_by, visiting}
use Rattle.ledger_receive.proofs.Sheets.{holds-own}
use Rattle.ledger_receive.proofs.Arrivals.{arrived-valid}
use Rattle.ledger_receive.proofs.Visits.{visiting-unread}
use Rattle.ledger_receive.proofs.visit_record.Goals as goal

pub visit_stream-requires : goal.visit_stream-requires
visit_stream-requires c =
    let g = c.args in
    let is = sym c.read_arrival.ensures ∙ ap brought_by c.in-Some.is in
    (c.requires.0, arrived-valid g.slice.now c.shared_slice_known-1.given _ _ is)

pub returns-in-Some : goal.returns-in-Some
returns-in-Some c =
    let g = c.args in
    let is = sym c.read_arrival.ensures ∙ ap brought_by c.in-Some.is in
    c.visit_stream.ensures ∙ ap (λ x. visiting g.desk x (book_of g.s.now)) (sym is)

pub returns-in-None : goal.returns-in-None
returns-in-None c =
    let g = c.args in
    let is = sym c.read_arrival.ensures ∙ ap brought_by c.in-None.is in
    let laid = (holds-own g.s.now c.slice_known-1.given c.requires.0).is-laid in
    rw is (ap (λ (t : List ℕ). (12, t)) laid ∙ sym (visiting-unread g.desk (book_of g.s.now)))
