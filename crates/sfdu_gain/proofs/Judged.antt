-- The gain calls, case by case. Assumes nothing.
use Prim.Native.Nat.{ℕ}
use mathlib.Core.Bool.{Bool, true, false}
use mathlib.Core.List.{List, [], ◌∷◌, ◌++◌, map}
use mathlib.Core.Path.{◌≡◌, refl, sym, ◌∙◌}
use Rattle.refusals.specs.Judge.{Rule, judge}
use Rattle.refusals.specs.Table.{number_of}
use Rattle.refusals.proofs.Judged.{NoneHolds, First, none-judge, first-judge, judge-append}
use Rattle.dates.specs.Calendar.{day_count}
use Rattle.std.specs.Prelude.{Option, Some, None, Ok}
use Rattle.refusals.specs.declared.Refusal.{Refusal}
use Rattle.settings.specs.declared.Setting.{Setting}
use Rattle.settings.specs.declared.Agreement.{Agreement}
use Rattle.settings.specs.Editions.{edition_number}
use Rattle.settings.specs.Model.{known, ask}
use Rattle.settings.specs.Words.{asked_words}
use Rattle.settings.specs.Sheet.{right}
use Rattle.settings.specs.Layout.{on_sheet}
use Rattle.sfdu_headers.specs.Words.{Word, number}
use Rattle.sfdu_headers.specs.Fields.{year, day}
use Rattle.sfdu_headers.specs.RsrRecord.{only, rsr_rules, mission}
use Rattle.sfdu_gain.specs.Gain.{gain_of, gaining, agreed, edition_of, asked_rules, agreed_gain}

-- Rules behind those of read headers: where one of these applies it decides, and else they do.
module _ (s : List ℕ) (more : List (Rule (List ℕ))) (answer : List Word) where
  headed : (g : List ℕ) → First (rsr_rules s) g → judge (map number) (rsr_rules s ++ more) answer ≡ map number g
  headed g f = judge-append (map number) (rsr_rules s) more answer ∙ first-judge (map number) _ f

  past : NoneHolds (rsr_rules s) → judge (map number) (rsr_rules s ++ more) answer ≡ judge (map number) more answer
  past h = judge-append (map number) (rsr_rules s) more answer ∙ none-judge (map number) (rsr_rules s) _ h

module _ (edition : ℕ) (s : List ℕ) where
  pub gain-refused : (g : List ℕ) → First (rsr_rules s) g → gaining edition s ≡ map number g
  unfolding gaining
  gain-refused g f = headed s _ _ g f

  pub gain-unknown : NoneHolds (rsr_rules s) → known edition ≡ false → gaining edition s ≡ map number (only 44)
  unfolding gaining judge
  gain-unknown h e = past s _ _ h ∙ rw e

  pub gain-known : NoneHolds (rsr_rules s) → known edition ≡ true → gaining edition s ≡ number 0 ∷ gain_of edition s ∷ []
  unfolding gaining judge
  gain-known h e = past s _ _ h ∙ rw e

module _ (sheet s : List ℕ) where
  pub agreed-refused : (g : List ℕ) → First (rsr_rules s) g → agreed_gain sheet s ≡ map number g
  unfolding agreed_gain
  agreed-refused g f = headed s _ _ g f

  pub agreed-past : NoneHolds (rsr_rules s)
      → agreed_gain sheet s ≡ judge (map number) (asked_rules sheet s) (number 0 ∷ gain_of (edition_of (agreed sheet s)) s ∷ [])
  unfolding agreed_gain
  agreed-past h = past s (asked_rules sheet s) _ h

  -- What asking the sheet gives, and what it refuses, is the answer.
  pub agreed-given : NoneHolds (rsr_rules s) → (x : Agreement)
      → asked_words (Ok x) ≡ (on_sheet (ask (mission s) (day_count (year s) (day s))) sheet).0
      → number 0 ∷ gain_of (edition_number x.edition) s ∷ [] ≡ agreed_gain sheet s
  unfolding judge on_sheet ask
  agreed-given h x e = by (right sheet) (agreed sheet s) refl refl e ∙ sym (agreed-past h)
    where
      by : (b : Bool) (f : Option Setting) → right sheet ≡ b → agreed sheet s ≡ f
          → asked_words (Ok x) ≡ (on_sheet (ask (mission s) (day_count (year s) (day s))) sheet).0
          → number 0 ∷ gain_of (edition_number x.edition) s ∷ []
          ≡ judge (map number) (asked_rules sheet s) (number 0 ∷ gain_of (edition_of (agreed sheet s)) s ∷ [])
      by true (Some y) r a e =
          let same : edition_number x.edition ≡ y.edition = cc (rw (r, a) at e) in
          rw (r, a, same)
      by true None r a e = cc (rw (r, a) at e)
      by false f r a e = cc (rw r at e)

  pub agreed-not : NoneHolds (rsr_rules s) → (why : Refusal)
      → number_of why ∷ [] ≡ (on_sheet (ask (mission s) (day_count (year s) (day s))) sheet).0
      → map number (only (number_of why)) ≡ agreed_gain sheet s
  unfolding judge on_sheet ask
  agreed-not h why e = by (right sheet) (agreed sheet s) refl refl e ∙ sym (agreed-past h)
    where
      by : (b : Bool) (f : Option Setting) → right sheet ≡ b → agreed sheet s ≡ f
          → number_of why ∷ [] ≡ (on_sheet (ask (mission s) (day_count (year s) (day s))) sheet).0
          → map number (only (number_of why)) ≡ judge (map number) (asked_rules sheet s) (number 0 ∷ gain_of (edition_of (agreed sheet s)) s ∷ [])
      by true (Some y) r a e = cc (rw (r, a) at e)
      by true None r a e = let n : number_of why ≡ 47 = cc (rw (r, a) at e) in rw (r, a, n)
      by false f r a e = let n : number_of why ≡ 43 = cc (rw r at e) in rw (r, n)
