-- `answers::records::rsr` meets its contract. Assumes nothing.
use mathlib.Core.Path.{refl}
use lib.Dec.{lit<}
use Rattle.answers.proofs.records.rsr.Goals as goal

pub returns : goal.returns
returns c =
    rw (c.with_signal-numbers.ensures, c.with_source-from.ensures, c.record-begun.ensures)
    (refl, lit< tt)
