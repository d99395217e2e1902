-- `sfdu_headers::rsr::read_date` meets its contract. Assumes nothing.
use mathlib.Core.Path.{◌≡◌, sym, ap, ◌∙◌}
use Rattle.std.specs.Prelude.{Err}
use Rattle.dates.specs.inner.Counted.{count_of}
use Rattle.sfdu_headers.specs.Fields.{year, day}
use Rattle.sfdu_headers.proofs.Dates.{is-dated, is-no-date}
use Rattle.sfdu_headers.proofs.rsr.read_date.Goals as goal
use Rattle.sfdu_headers.proofs.rsr.read_date.Goals.{After-day_count}

-- The answer is that of the record's year and day.
counted : (c : After-day_count) → let s = c.args.s.now in c.day_count.result ≡ count_of (year s) (day s)
counted c = c.day_count.ensures ∙ rw (c.read_u16-year.ensures, c.read_u16-day.ensures)

pub returns-in_default : goal.returns-in_default
returns-in_default c =
    ap Err c.out_of_range.ensures
    ∙ is-no-date _ _ (sym c.in_default.is ∙ counted (goal.at.returns-in_default c).After-day_count)
    (c.wrong_date_at.ensures ∙ rw c.read_u16-year.ensures)

pub returns : goal.returns
returns c = is-dated _ _ (sym c.in-Some.is ∙ counted (goal.at.returns c).After-day_count)
