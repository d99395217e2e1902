-- `sfdu_headers::rsr::wrong_date_at` meets its contract. Assumes nothing.
use Rattle.sfdu_headers.proofs.rsr.wrong_date_at.Goals as goal

pub returns-then-is_year : goal.returns-then-is_year
returns-then-is_year c = rw (← c.is_year.ensures, c.if-is_year.true)

pub returns : goal.returns
returns c = rw (← c.is_year.ensures, c.if-is_year.false)
