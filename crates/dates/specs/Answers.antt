-- The answer of `date_of`: the date of a day count. Assumes nothing.
-- The manual, docs/INTERFACE.md: "Dates".
use Rattle.std.specs.Prelude.{ℕ, List, [], ◌∷◌, Result}
use Rattle.refusals.specs.declared.Refusal.{Refusal}
use Rattle.refusals.specs.Words.{answer_words}
use Rattle.dates.specs.declared.Date.{Date}

-- The year and the day.
abbrev pub values_of : Date → List ℕ
values_of date = date.year ∷ date.day ∷ []

-- The words of the answer: 0, the year and the day, or the refusal's number.
abbrev pub words_of : Result Date Refusal → List ℕ
words_of answer = answer_words values_of answer
