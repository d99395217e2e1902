-- The equations of `MadeFresh` and `Promised` are those of the functions' contracts: a caller must show nothing, and each equation follows from what
-- the caller learns of the call (`Learnt`, made from its `ensures`). `a` is the arguments, of which the first is the sheet; `e` is the same at exit;
-- r is the answer. Assumes nothing.
use mathlib.Core.Path.{◌≡◌}
use Rattle.laws.proofs.Keeps.{Keeps}
use Rattle.ledger_model.specs.Step.{Find, RowReport, FirstGap, RowStream, DeskState, Unsaved}
use Rattle.ledger_model.specs.Step.{Enrol, Ask, Open, Tick, Untick, Save, Drop, Strike}
use Rattle.ledger_sheet.specs.Words.{answer_words}
use Rattle.std.specs.Prelude.{Ok}
use Rattle.ledger_layout.specs.Layout.{fresh_on}
use Rattle.ledger_layout.specs.Demand3.{answer_of, row_answer_of, report_answer_of, gap_answer_of, stream_answer_of, desk_answer_of, unsaved_answer_of}
use Rattle.ledger.specs.Demand3.{MadeFresh, Promised, enrolled, found, reported, gapped, row_told, desk_told, unsaved_told}
use Rattle.ledger.specs.Demand3.{opened, ticked, unticked, saved, dropped, struck}
use Rattle.ledger.proofs.fresh.Reads as fresh
use Rattle.ledger.proofs.fresh.Kinds as fresh-kinds
use Rattle.ledger.proofs.enrol.Reads as enrol
use Rattle.ledger.proofs.enrol.Kinds as enrol-kinds
use Rattle.ledger.proofs.find.Reads as find
use Rattle.ledger.proofs.find.Kinds as find-kinds
use Rattle.ledger.proofs.open.Reads as open_row
use Rattle.ledger.proofs.open.Kinds as open-row-kinds
use Rattle.ledger.proofs.tick.Reads as tick
use Rattle.ledger.proofs.tick.Kinds as tick-kinds
use Rattle.ledger.proofs.untick.Reads as untick
use Rattle.ledger.proofs.untick.Kinds as untick-kinds
use Rattle.ledger.proofs.drop.Reads as drop
use Rattle.ledger.proofs.drop.Kinds as drop-kinds
use Rattle.ledger.proofs.save.Reads as save
use Rattle.ledger.proofs.save.Kinds as save-kinds
use Rattle.ledger.proofs.strike.Reads as strike
use Rattle.ledger.proofs.strike.Kinds as strike-kinds
use Rattle.ledger.proofs.row_report.Reads as report
use Rattle.ledger.proofs.row_report.Kinds as report-kinds
use Rattle.ledger.proofs.first_gap.Reads as gap
use Rattle.ledger.proofs.first_gap.Kinds as gap_kinds
use Rattle.ledger.proofs.row.Reads as stream
use Rattle.ledger.proofs.row.Kinds as stream-kinds
use Rattle.ledger.proofs.desk.Reads as desk
use Rattle.ledger.proofs.desk.Kinds as desk-kinds
use Rattle.ledger.proofs.unsaved.Reads as unsaved
use Rattle.ledger.proofs.unsaved.Kinds as unsaved-kinds

pub fresh_keeps : Keeps 1 fresh-kinds.ps fresh-kinds.r fresh.Asked fresh.Learnt
    (λ κs a r e. ((answer_words r, e.0.now) ≡ fresh_on a.0.now) × (r ≡ Ok tt → MadeFresh a.0.now e.0.now))
fresh_keeps = record { asks_nothing = λ κs a. tt; gives = λ κs a r e fits h. (h, λ done. rw done at h) }

pub enrol-keeps : Keeps 1 enrol-kinds.ps enrol-kinds.r enrol.Asked enrol.Learnt
    (λ κs a r e. Promised (Enrol a.1.0 a.1.1.0) a.0.now (row_answer_of r) e.0.now)
enrol-keeps = record { asks_nothing = λ κs a. tt; gives = λ κs a r e fits h. enrolled r h }

pub find-keeps : Keeps 1 find-kinds.ps find-kinds.r find.Asked find.Learnt
    (λ κs a r e. Promised (Ask (Find a.1.0)) a.0.now (row_answer_of r) a.0.now)
find-keeps = record { asks_nothing = λ κs a. tt; gives = λ κs a r e fits h. found r h }

pub open-row-keeps : Keeps 1 open-row-kinds.ps open-row-kinds.r open_row.Asked open_row.Learnt
    (λ κs a r e. Promised (Open a.1.0 a.1.1.0) a.0.now (answer_of r) e.0.now)
open-row-keeps = record { asks_nothing = λ κs a. tt; gives = λ κs a r e fits h. opened r h }

pub tick-keeps : Keeps 1 tick-kinds.ps tick-kinds.r tick.Asked tick.Learnt
    (λ κs a r e. Promised (Tick a.1.0 a.1.1.0) a.0.now (answer_of r) e.0.now)
tick-keeps = record { asks_nothing = λ κs a. tt; gives = λ κs a r e fits h. ticked r h }

pub untick-keeps : Keeps 1 untick-kinds.ps untick-kinds.r untick.Asked untick.Learnt
    (λ κs a r e. Promised (Untick a.1.0 a.1.1.0) a.0.now (answer_of r) e.0.now)
untick-keeps = record { asks_nothing = λ κs a. tt; gives = λ κs a r e fits h. unticked r h }

pub drop_keeps : Keeps 1 drop-kinds.ps drop-kinds.r drop.Asked drop.Learnt
    (λ κs a r e. Promised (Drop a.1.0) a.0.now (answer_of r) e.0.now)
drop_keeps = record { asks_nothing = λ κs a. tt; gives = λ κs a r e fits h. dropped r h }

pub save-keeps : Keeps 1 save-kinds.ps save-kinds.r save.Asked save.Learnt
    (λ κs a r e. Promised (Save a.1.0) a.0.now (answer_of r) e.0.now)
save-keeps = record { asks_nothing = λ κs a. tt; gives = λ κs a r e fits h. saved r h }

pub strike-keeps : Keeps 1 strike-kinds.ps strike-kinds.r strike.Asked strike.Learnt
    (λ κs a r e. Promised (Strike a.1.0) a.0.now (answer_of r) e.0.now)
strike-keeps = record { asks_nothing = λ κs a. tt; gives = λ κs a r e fits h. struck r h }

pub report-keeps : Keeps 1 report-kinds.ps report-kinds.r report.Asked report.Learnt
    (λ κs a r e. Promised (Ask (RowReport a.1.0)) a.0.now (report_answer_of r) a.0.now)
report-keeps = record { asks_nothing = λ κs a. tt; gives = λ κs a r e fits h. reported r h }

pub gap-keeps : Keeps 1 gap_kinds.ps gap_kinds.r gap.Asked gap.Learnt
    (λ κs a r e. Promised (Ask FirstGap) a.0.now (gap_answer_of r) a.0.now)
gap-keeps = record { asks_nothing = λ κs a. tt; gives = λ κs a r e fits h. gapped r h }

pub stream-keeps : Keeps 1 stream-kinds.ps stream-kinds.r stream.Asked stream.Learnt
    (λ κs a r e. Promised (Ask (RowStream a.1.0)) a.0.now (stream_answer_of r) a.0.now)
stream-keeps = record { asks_nothing = λ κs a. tt; gives = λ κs a r e fits h. row_told r h }

pub desk-keeps : Keeps 1 desk-kinds.ps desk-kinds.r desk.Asked desk.Learnt
    (λ κs a r e. Promised (Ask (DeskState a.1.0)) a.0.now (desk_answer_of r) a.0.now)
desk-keeps = record { asks_nothing = λ κs a. tt; gives = λ κs a r e fits h. desk_told r h }

pub unsaved-keeps : Keeps 1 unsaved-kinds.ps unsaved-kinds.r unsaved.Asked unsaved.Learnt
    (λ κs a r e. Promised (Ask (Unsaved a.1.0)) a.0.now (unsaved_answer_of r) a.0.now)
unsaved-keeps = record { asks_nothing = λ κs a. tt; gives = λ κs a r e fits h. unsaved_told r h }
