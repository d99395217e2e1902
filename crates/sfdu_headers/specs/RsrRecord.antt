-- Document 02, Req 08 and Req 14: the refusals that every call on an RSR record tests first. They are those of read headers for kind 2, with their
-- second numbers (Req 05), as one list of rules. Assumes nothing.
-- The manual, docs/INTERFACE.md: "Calls on records".
use Rattle.std.specs.Prelude.{ℕ, ◌+◌, not, List, [], ◌∷◌, ◌++◌, map, Result, ◌≡◌, eqb, get_or}
use Rattle.refusals.specs.Judge.{Rule, ◌when◌, judge, each, answered}
use Rattle.refusals.specs.Words.{result_words, Different}
use Rattle.dates.specs.Calendar.{day_count}
use Rattle.sfdu.specs.declared.Kind.TheVariants.{Rsr as RsrKind}
use Rattle.sfdu.specs.Nesting.{kind_number, primary_value_at}
use Rattle.sfdu.specs.declared.RecordRefusal.{RecordRefusal}
use Rattle.sfdu.specs.Read.{kind_of, record_length, refusal_words, ◌giving◌, read_rules}
use Rattle.sfdu_headers.specs.Words.{number}
use Rattle.sfdu_headers.specs.Fields.{year, day}
use Rattle.sfdu_headers.specs.Ranges.{field_rules}
use Rattle.sfdu_headers.specs.Headers.{accepted_fields, read_headers}
use Rattle.sfdu_headers.specs.declared.rsr_record.RsrRecord.{RsrRecord}

-- A refusal without a second number.
abbrev pub only : ℕ → List ℕ
only n = n ∷ []

-- 15, then 12 with the offset of the lowest field that is out of range.
abbrev pub kind_rules : List ℕ → List (Rule (List ℕ))
kind_rules s = (only 15 when not (eqb (kind_number RsrKind) (kind_number (kind_of s)))) ∷ each (λ at. 12 giving at) (field_rules RsrKind s)

-- The refusals of read one, then these.
abbrev pub rsr_rules : List ℕ → List (Rule (List ℕ))
rsr_rules s = read_rules s ++ kind_rules s

-- These are exactly the refusals of read headers: if none holds, it accepts.
abbrev pub HeadersRefuse : Type 0
HeadersRefuse = (s : List ℕ) → read_headers (kind_number RsrKind) s ≡ judge (map number) (rsr_rules s) (accepted_fields RsrKind s)

-- The mission is the third byte of the primary value.
abbrev pub mission : List ℕ → ℕ
mission s = get_or s (primary_value_at + 2) 0

unfoldable pub read_rsr : List ℕ → List ℕ
read_rsr s = answered (rsr_rules s) (0 ∷ record_length s ∷ mission s ∷ day_count (year s) (day s) ∷ [])

abbrev pub values_of : RsrRecord → List ℕ
values_of r = r.size ∷ r.mission ∷ r.day_count ∷ []

abbrev pub words_of : Result RsrRecord RecordRefusal → List ℕ
words_of answer = result_words refusal_words values_of answer

-- Different answers have different words.
abbrev pub DifferentRsr : Type 0
DifferentRsr = Different words_of
