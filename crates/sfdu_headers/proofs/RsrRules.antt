-- The rules are read headers', and what its answer says of them. Assumes nothing.
use Prim.Native.Nat.{ℕ, ◌≤◌}
use native.Mathlib.Omega.{arith}
use mathlib.Core.Bool.{true, not, false≢true}
use mathlib.Core.List.{List, [], ◌∷◌, map}
use mathlib.Core.Path.{◌≡◌, refl, sym, ap, ◌∙◌}
use lib.Dec.{eqb, lit≤}
use lib.ListN.{get_or, length}
use Rattle.refusals.specs.Judge.{◌when◌, judge, answered, each}
use Rattle.refusals.proofs.Judged.{NoneHolds, Outcome, none, first, outcome, none-judge, first-judge, judge-append}
use Rattle.dates.specs.Calendar.{day_count}
use Rattle.sfdu.specs.declared.Kind.{Kind}
use Rattle.sfdu.specs.declared.Kind.TheVariants.{Telemetry, Rsr}
use Rattle.sfdu.specs.Nesting.{kind_number}
use Rattle.sfdu.specs.declared.RecordRefusal.{RecordRefusal}
use Rattle.sfdu.specs.declared.RecordRefusal.TheVariants.{Fault as FaultRefusal, Alone}
use Rattle.sfdu.specs.Read.{refusal_words, kind_of, record_length, read_rules, ◌giving◌}
use Rattle.sfdu_headers.specs.Words.{Word, number, signed, none as no_number}
use Rattle.sfdu_headers.specs.Fields.{year, day}
use Rattle.sfdu_headers.specs.Ranges.{field_rules}
use Rattle.std.specs.Prelude.{Ok, Err}
use Rattle.sfdu_headers.specs.declared.TelemetryHeaders.{TelemetryHeaders}
use Rattle.sfdu_headers.specs.declared.RsrHeaders.{RsrHeaders}
use Rattle.sfdu_headers.specs.declared.Headers.TheVariants.{Telemetry as OfTelemetry, Rsr as OfRsr}
use Rattle.sfdu_headers.specs.Headers.{words_of, wrong_kind, accepted_fields, judged_fields, read_headers}
use Rattle.sfdu_headers.specs.RsrRecord.{only, rsr_rules, HeadersRefuse, mission, read_rsr}
use Rattle.sfdu_headers.proofs.Rules.{refuse, first-refuses, refuse-each, judge-each-of}

-- ---- the rules are read headers'

past-read-one : (k : Kind) (s : List ℕ)
    → answered ((wrong_kind when not (eqb (kind_number Rsr) (kind_number k))) ∷ []) (judged_fields k s)
    ≡ judge (map number) ((only 15 when not (eqb (kind_number Rsr) (kind_number k))) ∷ each (λ at. 12 giving at) (field_rules Rsr s)) (accepted_fields Rsr s)
unfolding judge
past-read-one Telemetry s = refl
past-read-one Rsr s = sym (judge-each-of (map number) (λ at. 12 giving at) (field_rules Rsr s) (accepted_fields Rsr s))

pub headers-refuse : HeadersRefuse
unfolding read_headers
headers-refuse s =
    ap (judge (map number) (read_rules s)) (past-read-one (kind_of s) s) ∙ sym (judge-append (map number) (read_rules s) _ (accepted_fields Rsr s))

-- Each of them refuses.
pub all-refuse : (s : List ℕ) → refuse (rsr_rules s) ≡ true
all-refuse s = refuse-each (λ at. 12 giving at) (λ n. refl) (field_rules Rsr s)

-- ---- what read headers' words say of them

abbrev back : Word → ℕ
back (number n) = n
back (signed z) = 0
back no_number = 0

numbers-back : (ws : List ℕ) → map back (map number ws) ≡ ws
numbers-back [] = refl
numbers-back (n ∷ ws) = ap (λ (l : List ℕ). n ∷ l) (numbers-back ws)

same_numbers : (ws g : List ℕ) → map number ws ≡ map number g → ws ≡ g
same_numbers ws g e = sym (numbers-back ws) ∙ ap (map back) e ∙ numbers-back g

module _ (s : List ℕ) where
  -- Words that begin with 0: no rule applies, and they are those of the accepted fields.
  pub accepted-words : (rest : List Word) → number 0 ∷ rest ≡ read_headers (kind_number Rsr) s
      → NoneHolds (rsr_rules s) × (number 0 ∷ rest ≡ accepted_fields Rsr s)
  accepted-words rest e = by (outcome (rsr_rules s))
    where
      by : Outcome (rsr_rules s) → NoneHolds (rsr_rules s) × (number 0 ∷ rest ≡ accepted_fields Rsr s)
      by (none h) = (h, e ∙ headers-refuse s ∙ none-judge (map number) (rsr_rules s) (accepted_fields Rsr s) h)
      by (first g f) =
          let same : number 0 ∷ rest ≡ map number g = e ∙ headers-refuse s ∙ first-judge (map number) (accepted_fields Rsr s) f in
          let head : 0 ≡ get_or (map back (map number g)) 0 0 = ap (λ (l : List Word). get_or (map back l) 0 0) same in
          absurd (omega (arith, rw numbers-back at head, first-refuses f (all-refuse s)))

  pub read-accepted : NoneHolds (rsr_rules s) → read_rsr s ≡ 0 ∷ record_length s ∷ mission s ∷ day_count (year s) (day s) ∷ []
  unfolding read_rsr
  read-accepted h = none-judge (λ given. given) (rsr_rules s) _ h

  -- One or two words that are no accepted record's: the refusal.
  pub refused-words : (ws : List ℕ) → length ws ≤ 2 → map number ws ≡ read_headers (kind_number Rsr) s → ws ≡ read_rsr s
  unfolding read_rsr
  refused-words ws l e = by (outcome (rsr_rules s))
    where
      by : Outcome (rsr_rules s) → ws ≡ read_rsr s
      by (none h) =
          let same : map number ws ≡ accepted_fields Rsr s = e ∙ headers-refuse s ∙ none-judge (map number) (rsr_rules s) (accepted_fields Rsr s) h in
          let n : length (map back (map number ws)) ≡ 30 = ap (λ (l : List Word). length (map back l)) same in
          absurd (omega (arith, rw numbers-back at n))
      by (first g f) =
          same_numbers ws g (e ∙ headers-refuse s ∙ first-judge (map number) (accepted_fields Rsr s) f) ∙ sym (first-judge (λ given. given) _ f)

  short : (r : RecordRefusal) → length (refusal_words r) ≤ 2
  short (FaultRefusal f) = lit≤ tt
  short (Alone r) = lit≤ tt

  pub refusal-words : (r : RecordRefusal) → words_of (Err r) ≡ read_headers (kind_number Rsr) s → refusal_words r ≡ read_rsr s
  refusal-words r e = refused-words (refusal_words r) (short r) e

  -- An accepted RSR record, and none of telemetry.
  pub rsr-headers : (h : RsrHeaders) → words_of (Ok (OfRsr h)) ≡ read_headers (kind_number Rsr) s
      → 0 ∷ h.size ∷ h.primary.mission ∷ h.day_count ∷ [] ≡ read_rsr s
  rsr-headers h e =
      let a = accepted-words _ e in
      let at : (i : ℕ) → _ = λ i. ap (λ (l : List Word). get_or (map back l) i 0) a.1 in
      rw (at 2, at 5, at 29) (sym (read-accepted a.0))

  pub telemetry-headers : (h : TelemetryHeaders) → words_of (Ok (OfTelemetry h)) ≡ read_headers (kind_number Rsr) s → ⊥
  telemetry-headers h e = false≢true (cc (accepted-words _ e).1)
