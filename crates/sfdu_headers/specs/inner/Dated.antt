-- What `read_date` gives. Assumes nothing.
use Rattle.std.specs.Prelude.{ℕ, List, Result, Ok, Err}
use Rattle.refusals.specs.Judge.{judge}
use Rattle.refusals.specs.declared.Refusal.TheVariants.{FieldRange}
use Rattle.dates.specs.Calendar.{day_count}
use Rattle.sfdu.specs.declared.Fault.{Fault}
use Rattle.sfdu_headers.specs.Fields.{year, day}
use Rattle.sfdu_headers.specs.Ranges.{date_rules}

-- The day count of a record's year and day; or the refusal, with the offset of the one that is out of range.
unfoldable pub dated : List ℕ → Result ℕ Fault
dated s = judge (λ at. Err (record { refusal = FieldRange; at = at })) (date_rules s) (Ok (day_count (year s) (day s)))
