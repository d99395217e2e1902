-- What the checks of fields say of the answer. Assumes nothing.
use Prim.Native.Nat.{ℕ}
use mathlib.Core.List.{List, [], ◌∷◌, map}
use mathlib.Core.Path.{◌≡◌, sym, ap, ◌∙◌}
use Rattle.std.specs.Prelude.{Ok, Err}
use Rattle.refusals.specs.declared.Refusal.{Refusal}
use Rattle.refusals.specs.declared.Refusal.TheVariants.{FieldRange}
use Rattle.refusals.specs.Table.{number_of}
use Rattle.refusals.specs.Judge.{judge}
use Rattle.refusals.proofs.Judged.{judge-append}
use Rattle.dates.specs.Calendar.{day_count}
use Rattle.sfdu.specs.declared.Kind.{Kind}
use Rattle.sfdu.specs.declared.Kind.TheVariants.{Rsr}
use Rattle.sfdu.specs.declared.Fault.{Fault}
use Rattle.sfdu.specs.Read.{fault_words}
use Rattle.sfdu.specs.inner.Checked.{checked}
use Rattle.sfdu.proofs.Labels.{all_right, one-wrong}
use Rattle.sfdu_headers.specs.Words.{number}
use Rattle.sfdu_headers.specs.Fields.{year, day}
use Rattle.sfdu_headers.specs.Ranges.{field_rules, byte_rules, date_rules}
use Rattle.sfdu_headers.specs.Headers.{out_of_range, accepted_fields, judged_fields}
use Rattle.sfdu_headers.specs.inner.Dated.{dated}
use Rattle.sfdu_headers.specs.inner.Fault.{fault}

-- The words of a fault of the fields.
said : (f : Fault) → f.refusal ≡ FieldRange → out_of_range f.at ≡ map number (fault_words f)
said f e = ap (λ (r : Refusal). number (number_of r) ∷ number f.at ∷ []) (sym e)

module _ (k : Kind) (s : List ℕ) where
  pub field-refused : (f : Fault) → fault k s ≡ Err f → map number (fault_words f) ≡ judged_fields k s
  unfolding fault
  field-refused f e =
      let wrong = one-wrong out_of_range FieldRange tt (field_rules k s) (accepted_fields k s) f e in
      sym (wrong.1 ∙ said f wrong.0)

  pub fields-accepted : (u : Unit {0}) → fault k s ≡ Ok u → accepted_fields k s ≡ judged_fields k s
  unfolding fault
  fields-accepted u e = sym (all_right out_of_range FieldRange tt (field_rules k s) (accepted_fields k s) u e).1

-- An RSR record's bytes are judged first, then its date.
module _ (s : List ℕ) where
  in-turn : judged_fields Rsr s ≡ judge out_of_range (byte_rules s) (judge out_of_range (date_rules s) (accepted_fields Rsr s))
  in-turn = judge-append out_of_range (byte_rules s) (date_rules s) (accepted_fields Rsr s)

  pub byte-refused : (f : Fault) → checked FieldRange (byte_rules s) ≡ Err f → map number (fault_words f) ≡ judged_fields Rsr s
  byte-refused f e =
      let wrong = one-wrong out_of_range FieldRange tt (byte_rules s) (judge out_of_range (date_rules s) (accepted_fields Rsr s)) f e in
      sym (in-turn ∙ wrong.1 ∙ said f wrong.0)

  bytes-right : (u : Unit {0}) → checked FieldRange (byte_rules s) ≡ Ok u → judged_fields Rsr s ≡ judge out_of_range (date_rules s) (accepted_fields Rsr s)
  bytes-right u e = in-turn ∙ (all_right out_of_range FieldRange tt (byte_rules s) _ u e).1

  pub date-refused : (u : Unit {0}) (f : Fault) → checked FieldRange (byte_rules s) ≡ Ok u → dated s ≡ Err f
      → map number (fault_words f) ≡ judged_fields Rsr s
  unfolding dated
  date-refused u f e d =
      let wrong = one-wrong out_of_range FieldRange (day_count (year s) (day s)) (date_rules s) (accepted_fields Rsr s) f d in
      sym (bytes-right u e ∙ wrong.1 ∙ said f wrong.0)

  pub date-accepted : (u : Unit {0}) (n : ℕ) → checked FieldRange (byte_rules s) ≡ Ok u → dated s ≡ Ok n
      → (n ≡ day_count (year s) (day s)) × (accepted_fields Rsr s ≡ judged_fields Rsr s)
  unfolding dated
  date-accepted u n e d =
      let right = all_right out_of_range FieldRange (day_count (year s) (day s)) (date_rules s) (accepted_fields Rsr s) n d in
      (right.0, sym (bytes-right u e ∙ right.1))
