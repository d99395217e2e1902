-- `sfdu_list_text::lines::put_letter` meets its contract: a letter for each kind. Assumes nothing.
use Rattle.sfdu_list_text.proofs.lines.put_letter.Goals as goal

pub returns-in-Telemetry : goal.returns-in-Telemetry
returns-in-Telemetry c =
    rw c.in-Telemetry.is c.put_text.ensures

pub returns-in-Rsr : goal.returns-in-Rsr
returns-in-Rsr c =
    rw c.in-Rsr.is c.put_text-in-Rsr.ensures
