-- A record's year and day: a date with its count, or the field that is wrong. Assumes nothing.
use Prim.Native.Nat.{ℕ, ◌+◌}
use mathlib.Core.Bool.{Bool, true, false, cond, false≢true}
use mathlib.Core.List.{List}
use mathlib.Core.Path.{◌≡◌, refl, ap, ◌∙◌}
use Rattle.refusals.specs.Judge.{judge}
use Rattle.std.specs.Prelude.{Option, Some, None, Ok}
use Rattle.refusals.specs.declared.Refusal.TheVariants.{FieldRange}
use Rattle.sfdu.proofs.Labels.{wrong}
use Rattle.sfdu.specs.Nesting.{secondary_at}
use Rattle.dates.specs.Calendar.{is_year, is_day, is_date, day_count}
use Rattle.dates.specs.inner.Counted.{count_of}
use Rattle.sfdu_headers.specs.Fields.{year, day, year_at, day_at}
use Rattle.sfdu_headers.specs.inner.Dated.{dated}

-- What the two tests say of the answer of the day count.
abbrev answer_of : (is_year is_day : Bool) (count : ℕ) → Option ℕ
answer_of true true count = Some count
answer_of true false count = None
answer_of false b count = None

answer-is : (y d : ℕ) (a b : Bool) → is_year y ≡ a → is_day y d ≡ b → count_of y d ≡ answer_of a b (day_count y d)
unfolding is_date
answer-is y d true true e f = rw (e, f)
answer-is y d true false e f = rw (e, f)
answer-is y d false b e f = rw e

pub is-dated : (s : List ℕ) (n : ℕ) → Some n ≡ count_of (year s) (day s) → Ok n ≡ dated s
unfolding dated judge
is-dated s n h = by (is_year (year s)) (is_day (year s) (day s)) refl refl
  where
    by : (a b : Bool) → is_year (year s) ≡ a → is_day (year s) (day s) ≡ b → Ok n ≡ dated s
    by true true e f =
        let same : Some n ≡ Some (day_count (year s) (day s)) = h ∙ answer-is (year s) (day s) true true e f in
        let count : n ≡ day_count (year s) (day s) = cc same in
        rw (e, f) (ap Ok count)
    by true false e f = let none : Some n ≡ None = h ∙ answer-is (year s) (day s) true false e f in absurd (false≢true (cc none))
    by false b e f = let none : Some n ≡ None = h ∙ answer-is (year s) (day s) false b e f in absurd (false≢true (cc none))

pub is-no-date : (s : List ℕ) (at : ℕ) → None ≡ count_of (year s) (day s) → at ≡ cond (is_year (year s)) (secondary_at + day_at) (secondary_at + year_at)
    → wrong FieldRange at ≡ dated s
unfolding dated judge
is-no-date s at h i = by (is_year (year s)) (is_day (year s) (day s)) refl refl
  where
    by : (a b : Bool) → is_year (year s) ≡ a → is_day (year s) (day s) ≡ b → wrong FieldRange at ≡ dated s
    by true true e f =
        let none : None ≡ Some (day_count (year s) (day s)) = h ∙ answer-is (year s) (day s) true true e f in
        absurd (false≢true (cc none))
    by true false e f = rw (i, e, f)
    by false b e f = rw (i, e)
