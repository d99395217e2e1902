-- The gain by a mission's agreement is the gain for the edition that `ask` answers. Assumes nothing.
use Prim.Native.Nat.{ℕ}
use mathlib.Core.Bool.{Bool, true, false}
use mathlib.Core.List.{List, [], ◌∷◌, map}
use mathlib.Core.Path.{◌≡◌, refl, sym, ap, ◌∙◌}
use lib.Dec.{eqb}
use borrow.Author.Tests.{ne_eqb}
use Rattle.refusals.specs.Judge.{judge}
use Rattle.refusals.specs.Table.{number_of}
use Rattle.refusals.proofs.Judged.{Outcome, none, first, outcome, NoneHolds, none-judge, first-judge}
use Rattle.refusals.proofs.Laws.{number-positive}
use Rattle.dates.specs.Calendar.{day_count}
use Rattle.std.specs.Prelude.{Option, Some, None, Ok, Err}
use Rattle.settings.specs.declared.Setting.{Setting}
use Rattle.settings.specs.Editions.{edition_number}
use Rattle.settings.specs.Model.{ask}
use Rattle.settings.specs.Sheet.{right}
use Rattle.settings.specs.Layout.{on_sheet}
use Rattle.settings.proofs.Known.{found-known}
use Rattle.sfdu_headers.specs.Words.{number}
use Rattle.sfdu_headers.specs.Fields.{year, day}
use Rattle.sfdu_headers.specs.RsrRecord.{rsr_rules, mission}
use Rattle.sfdu_gain.specs.Gain.{gain_of, gaining, agreed, edition_of, asked_rules, agreed_gain}
use Rattle.sfdu_gain.specs.Agreed.{asked_for, gain_for, AgreedIsGain, AnswersAgree}
use Rattle.sfdu_gain.proofs.Judged.{gain-refused, gain-known, agreed-refused, agreed-past}
use Rattle.sfdu_gain.proofs.Words.{same-gain}

-- What is judged of the sheet is what asking it answers.
asked_is : (sheet s : List ℕ) → NoneHolds (rsr_rules s)
    → judge (map number) (asked_rules sheet s) (number 0 ∷ gain_of (edition_of (agreed sheet s)) s ∷ []) ≡ gain_for (asked_for sheet s) s
unfolding judge on_sheet ask
asked_is sheet s h = by (right sheet) (agreed sheet s) refl refl
  where
    by : (b : Bool) (f : Option Setting) → right sheet ≡ b → agreed sheet s ≡ f
        → judge (map number) (asked_rules sheet s) (number 0 ∷ gain_of (edition_of (agreed sheet s)) s ∷ []) ≡ gain_for (asked_for sheet s) s
    by false f r a = let asked : asked_for sheet s ≡ 43 ∷ [] = rw (asked_for, r) in rw r (ap (λ (w : List ℕ). gain_for w s) (sym asked))
    by true None r a =
        let asked : asked_for sheet s ≡ 47 ∷ [] = rw (asked_for, r, a) in
        rw (r, a) (ap (λ (w : List ℕ). gain_for w s) (sym asked))
    by true (Some x) r a =
        let asked : asked_for sheet s ≡ 0 ∷ x.edition ∷ x.day ∷ x.frame ∷ [] = rw (asked_for, r, a) in
        let there = found-known (mission s) (day_count (year s) (day s)) sheet x r a in
        rw (r, a) (sym (gain-known x.edition s h there) ∙ ap (λ (w : List ℕ). gain_for w s) (sym asked))

pub agreed-is-gain : AgreedIsGain
agreed-is-gain sheet s = by (outcome (rsr_rules s))
  where
    by : Outcome (rsr_rules s) → agreed_gain sheet s ≡ judge (map number) (rsr_rules s) (gain_for (asked_for sheet s) s)
    by (none h) = agreed-past sheet s h ∙ asked_is sheet s h ∙ sym (none-judge (map number) (rsr_rules s) _ h)
    by (first g f) = agreed-refused sheet s g f ∙ sym (first-judge (map number) _ f)

-- Read headers' refusals are those of `gain`, whatever the edition.
judged-gain : (edition : ℕ) (s : List ℕ) → judge (map number) (rsr_rules s) (gaining edition s) ≡ gaining edition s
judged-gain edition s = by (outcome (rsr_rules s))
  where
    by : Outcome (rsr_rules s) → judge (map number) (rsr_rules s) (gaining edition s) ≡ gaining edition s
    by (none h) = none-judge (map number) (rsr_rules s) _ h
    by (first g f) = first-judge (map number) _ f ∙ sym (gain-refused edition s g f)

pub answers_agree : AnswersAgree
answers_agree sheet s (Ok x) r e w = λ g k.
    same-gain r g (w ∙ agreed-is-gain sheet s ∙ rw (← e) (judged-gain (edition_number x.edition) s) ∙ sym k)
answers_agree sheet s (Err why) r e w =
    let refused : eqb (number_of why) 0 ≡ false = ne_eqb _ _ (number-positive why) in
    w ∙ agreed-is-gain sheet s ∙ rw (← e, refused)
