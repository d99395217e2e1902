-- Document 02, Req 14: the gain multiplier of an RSR record. It has four of the 16 bytes at the end of the secondary block that the old edition
-- reserves. Assumes nothing.
-- The manual, docs/INTERFACE.md: "The gain multiplier".
use Rattle.std.specs.Prelude.{◌≡◌, ℕ, not, cond, List, [], ◌∷◌, ◌++◌, map, eqb, Option, Some, None, Result, Ok, Err}
use Rattle.refusals.specs.Judge.{Rule, ◌when◌, judge}
use Rattle.dates.specs.Calendar.{day_count}
use Rattle.settings.specs.Model.{known, latest, is_missing}
use Rattle.settings.specs.Sheet.{settings_of, right}
use Rattle.settings.specs.declared.Setting.{Setting}
use Rattle.sfdu.specs.declared.RecordRefusal.{RecordRefusal}
use Rattle.sfdu.specs.Read.{refusal_words}
use Rattle.sfdu_headers.specs.Words.{Word, number, none}
use Rattle.sfdu_headers.specs.Fields.{field_at, year, day}
use Rattle.sfdu_headers.specs.RsrRecord.{only, rsr_rules, mission}

abbrev pub gain_word : Option ℕ → Word
gain_word (Some n) = number n
gain_word None = none

abbrev pub words_of : Result (Option ℕ) RecordRefusal → List Word
words_of (Ok gain) = number 0 ∷ gain_word gain ∷ []
words_of (Err e) = map number (refusal_words e)

-- Different answers have different words.
abbrev pub DifferentGains : Type 0
DifferentGains = (a b : Result (Option ℕ) RecordRefusal) → words_of a ≡ words_of b → a ≡ b

-- Document 004, section 1.2: 12 of the 16 bytes stay reserved. Section 3.5: the multiplier is bytes 208 to 211, the first four of the 16.
abbrev pub multiplier : List ℕ → ℕ
multiplier s = field_at s 208 4

-- The old edition has no multiplier.
abbrev pub gain_of : (edition : ℕ) → List ℕ → Word
gain_of edition s = cond (eqb edition 2) (number (multiplier s)) none

-- The refusals of read headers, then 44.
abbrev pub gain_rules : (edition : ℕ) → List ℕ → List (Rule (List ℕ))
gain_rules edition s = rsr_rules s ++ (only 44 when not (known edition)) ∷ []

unfoldable pub gaining : (edition : ℕ) → List ℕ → List Word
gaining edition s = judge (map number) (gain_rules edition s) (number 0 ∷ gain_of edition s ∷ [])

-- ---- by the mission's agreement

-- The setting in force for the record's mission on its day.
abbrev pub agreed : (sheet s : List ℕ) → Option Setting
agreed sheet s = latest (mission s) (day_count (year s) (day s)) (settings_of sheet)

abbrev pub edition_of : Option Setting → ℕ
edition_of None = 0
edition_of (Some x) = x.edition

-- The refusals of `ask`: 43, 47. They follow those of read headers.
abbrev pub asked_rules : (sheet s : List ℕ) → List (Rule (List ℕ))
asked_rules sheet s = (only 43 when not (right sheet)) ∷ (only 47 when is_missing (agreed sheet s)) ∷ []

abbrev pub agreed_rules : (sheet s : List ℕ) → List (Rule (List ℕ))
agreed_rules sheet s = rsr_rules s ++ asked_rules sheet s

unfoldable pub agreed_gain : (sheet s : List ℕ) → List Word
agreed_gain sheet s = judge (map number) (agreed_rules sheet s) (number 0 ∷ gain_of (edition_of (agreed sheet s)) s ∷ [])
