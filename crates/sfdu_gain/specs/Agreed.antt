-- The gain by a mission's agreement is the gain for the edition that `ask` answers. Assumes nothing.
-- The manual, docs/INTERFACE.md: "The gain multiplier".
use Rattle.std.specs.Prelude.{ℕ, cond, List, map, ◌≡◌, eqb, get_or, Option, Result, Ok, Err}
use Rattle.refusals.specs.Judge.{judge}
use Rattle.dates.specs.Calendar.{day_count}
use Rattle.refusals.specs.declared.Refusal.{Refusal}
use Rattle.settings.specs.declared.Agreement.{Agreement}
use Rattle.settings.specs.Editions.{edition_number}
use Rattle.settings.specs.Model.{ask}
use Rattle.settings.specs.Words.{asked_words}
use Rattle.settings.specs.Layout.{on_sheet}
use Rattle.sfdu_headers.specs.Words.{Word, number}
use Rattle.sfdu_headers.specs.Fields.{year, day}
use Rattle.sfdu_headers.specs.RsrRecord.{rsr_rules, mission}
use Rattle.sfdu.specs.declared.RecordRefusal.{RecordRefusal}
use Rattle.sfdu.specs.declared.RecordRefusal.TheVariants.{Alone}
use Rattle.sfdu_gain.specs.Gain.{words_of, gaining, agreed_gain}

-- The answer of `ask` for the record's mission on its day: 0, edition, first day, frame length; or a refusal's number.
abbrev pub asked_for : (sheet s : List ℕ) → List ℕ
asked_for sheet s = (on_sheet (ask (mission s) (day_count (year s) (day s))) sheet).0

-- The gain for the edition in these words; if they are a refusal, that refusal.
abbrev pub gain_for : (asked s : List ℕ) → List Word
gain_for asked s = cond (eqb (get_or asked 0 0) 0) (gaining (get_or asked 1 0) s) (map number asked)

-- For every sheet and every record: the refusals of read headers come first, then those of `ask` (43 and 47), then the gain.
abbrev pub AgreedIsGain : Type 0
AgreedIsGain = (sheet s : List ℕ) → agreed_gain sheet s ≡ judge (map number) (rsr_rules s) (gain_for (asked_for sheet s) s)

-- The same as a statement about answers. If `ask` gives a setting, the answer is that of `gain` for its edition. If `ask` refuses, the answer is that
-- refusal, but the refusals of read headers come first.
abbrev pub Agrees : List ℕ → Result Agreement Refusal → Result (Option ℕ) RecordRefusal → Type 0
Agrees s (Ok x) r = (g : Result (Option ℕ) RecordRefusal) → words_of g ≡ gaining (edition_number x.edition) s → r ≡ g
Agrees s (Err why) r = words_of r ≡ judge (map number) (rsr_rules s) (words_of (Err (Alone why)))

abbrev pub AnswersAgree : Type 0
AnswersAgree =
    (sheet s : List ℕ) (asked : Result Agreement Refusal) (r : Result (Option ℕ) RecordRefusal)
    → asked_words asked ≡ asked_for sheet s → words_of r ≡ agreed_gain sheet s
    → Agrees s asked r
