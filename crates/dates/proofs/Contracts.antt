-- The laws of dates hold of the functions' contracts: `date_of` and `new_years` require nothing of a caller, and promise what the laws use.
-- Assumes nothing.
use mathlib.Core.Bool.{true}
use mathlib.Core.Path.{◌≡◌, sym}
use Rattle.laws.proofs.Keeps.{Keeps}
use Rattle.dates.specs.Calendar.{is_date, day_count, date_of}
use Rattle.dates.specs.Table.{NewYears}
use Rattle.dates.specs.Answers.{words_of}
use Rattle.std.specs.Prelude.{Ok}
use Rattle.dates.proofs.Laws.{forth-from-back}
use Rattle.dates.proofs.date_of.Reads as date
use Rattle.dates.proofs.date_of.Kinds as date-kinds
use Rattle.dates.proofs.new_years.Reads as table
use Rattle.dates.proofs.new_years.Kinds as table-kinds

-- Where `date_of` answers a date, it is one, and its day count is the count that was asked for.
pub date-of-keeps : Keeps 0 date-kinds.ps date-kinds.r date.Asked date.Learnt
    (λ κs a r e. (words_of r ≡ date_of a.0) × ((d : _) → r ≡ Ok d → (is_date d.year d.day ≡ true) × (day_count d.year d.day ≡ a.0)))
date-of-keeps =
    record {
      asks_nothing = λ κs a. tt;
      gives = λ κs a r e fits h. (h, λ d is. forth-from-back a.0 d.year d.day (rw is at (sym h)));
    }

pub new-years-keeps : Keeps 0 table-kinds.ps table-kinds.r table.Asked table.Learnt (λ κs a r e. NewYears r)
new-years-keeps = record { asks_nothing = λ κs a. tt; gives = λ κs a r e fits h. h }
