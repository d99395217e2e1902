-- `ledger_receive::visit_row` meets its contract. Assumes nothing.
use Prim.Native.Nat.{ℕ}
use mathlib.Core.Path.{◌≡◌, refl, sym, ◌∙◌}
use Rattle.ledger_model.specs.Step.{Open, Tick, run, step}
use Rattle.ledger_model.specs.Book.{Book}
use Rattle.ledger_layout.specs.Layout.{book_of}
use Rattle.ledger_layout.specs.Demand3.{answer_of}
use Rattle.ledger_receive.specs.Visits.{tick_answer}
use Rattle.ledger_receive.specs.inner.Calls.{leave, at_row}
use Rattle.ledger_receive.proofs.Sheets.{Holds, holds-own, holds-right, holds-book, after, answer-is}
use Rattle.ledger_receive.proofs.visit_row.Goals as goal
use Rattle.ledger_receive.proofs.visit_row.Goals.{After-open, After-mark-ticked}

-- The calls at the row are made one after the other.
rests : (d r n : ℕ) (b : Book) → leave d (tick_answer d r n b) (step (Tick d n) (step (Open d r) b).book).book ≡ at_row d r n b
unfolding run
rests d r n b = refl

-- The sheet after the open, and after the tick; and what the tick answers.
opened : (c : After-open)
    → let g = c.args in
    Holds c.«open».new.s (step (Open g.desk g.row) (book_of g.s.now)).book
opened c =
    let g = c.args in
    (after (Open g.desk g.row) (holds-own g.s.now c.slice_known-1.given c.requires) c.«open».ensures).holds

marked : (c : After-mark-ticked)
    → let g = c.args in
    Holds c.mark-ticked.new.s (step (Tick g.desk g.number) (step (Open g.desk g.row) (book_of g.s.now)).book).book
marked c =
    let g = c.args in
    (after (Tick g.desk g.number) (opened (goal.at.After-mark-ticked c).After-open) c.mark-ticked.ensures).holds

ticked : (c : After-mark-ticked)
    → let g = c.args in
    answer_of c.mark-ticked.result ≡ tick_answer g.desk g.row g.number (book_of g.s.now)
ticked c =
    let g = c.args in
    answer-is c.mark-ticked.result (Tick g.desk g.number) _
    (after (Tick g.desk g.number) (opened (goal.at.After-mark-ticked c).After-open) c.mark-ticked.ensures).words_are

pub open-requires : goal.open-requires
open-requires c = sym c.requires

pub mark-ticked-requires : goal.mark-ticked-requires
mark-ticked-requires c = sym (holds-right (opened (goal.at.mark-ticked-requires c).After-open))

pub leave_desk-requires : goal.leave_desk-requires
leave_desk-requires c = holds-right (marked (goal.at.leave_desk-requires c).After-mark-ticked)

pub returns : goal.returns
returns c =
    let g = c.args in
    let is = ticked (goal.at.returns c).After-mark-ticked in
    let there = holds-book (marked (goal.at.returns c).After-mark-ticked) in
    c.leave_desk.ensures ∙ rw (is, there) (rests g.desk g.row g.number _)
