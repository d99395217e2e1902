-- What a caller knows by the answer of `read_rsr`. Assumes nothing.
use Prim.Native.Nat.{ℕ, ◌-◌, ◌≤◌}
use native.Mathlib.Omega.{arith}
use mathlib.Core.List.{List, [], ◌∷◌}
use mathlib.Core.Path.{◌≡◌, refl, sym, ap, subst, ◌∙◌}
use borrow.Author.Tests.{eqb-true, not-false}
use lib.Dec.{lit<}
use lib.ListN.{length, get_or}
use Rattle.refusals.proofs.Judged.{NoneHolds, First, Outcome, none, first, outcome, first-judge, none-applies}
use Rattle.dates.specs.Calendar.{day_count}
use Rattle.octets.specs.Octets.{part}
use Rattle.sfdu.specs.declared.Kind.TheVariants.{Rsr}
use Rattle.sfdu.specs.declared.RecordRefusal.{RecordRefusal}
use Rattle.sfdu.specs.declared.RecordRefusal.TheVariants.{Fault as FaultRefusal, Alone}
use Rattle.sfdu.specs.Nesting.{data_value_at}
use Rattle.sfdu.specs.Read.{kind_of, record_length, read_rules, accepts, primary_of, data_part, refusal_words}
use Rattle.sfdu.proofs.Accepted.{Found, same_kind}
use Rattle.sfdu.proofs.Parts.{room, data-part}
use Rattle.sfdu_headers.specs.Fields.{year, day}
use Rattle.sfdu_headers.specs.RsrRecord.{kind_rules, rsr_rules, mission, read_rsr}
use Rattle.sfdu_headers.proofs.Rules.{first-refuses, none-of-both}
use Rattle.sfdu_headers.proofs.RsrRules.{all-refuse, read-accepted}

-- Read one finds an RSR record where no rule applies.
read-one-found : (s : List ℕ) → NoneHolds (rsr_rules s) → Found s Rsr (record_length s) (primary_of s)
unfolding accepts
read-one-found s h =
    let both = none-of-both (read_rules s) (kind_rules s) h in
    let kind : Rsr ≡ kind_of s = same_kind Rsr (kind_of s) (eqb-true _ _ (not-false _ both.1.0)) in
    record { accepted = none-applies (read_rules s) both.0; kind = kind; size = refl; words = rw (← kind) }

-- Of an answer `0 ∷ n ∷ m ∷ d ∷ []`.
pub record Whole (s : List ℕ) (n m d : ℕ) : Type 0 where
  pub headers : NoneHolds (rsr_rules s)
  pub size : n ≡ record_length s
  pub low : data_value_at Rsr ≤ n
  pub high : n ≤ length s
  pub data_is : data_part s ≡ part s (data_value_at Rsr) (n - data_value_at Rsr)
  pub mission-is : m ≡ mission s
  pub day-is : d ≡ day_count (year s) (day s)

pub whole : (s : List ℕ) (n m d : ℕ) → 0 ∷ n ∷ m ∷ d ∷ [] ≡ read_rsr s → Whole s n m d
unfolding read_rsr
whole s n m d e = by (outcome (rsr_rules s))
  where
    by : Outcome (rsr_rules s) → Whole s n m d
    by (none h) =
        let same : 0 ∷ n ∷ m ∷ d ∷ [] ≡ 0 ∷ record_length s ∷ mission s ∷ day_count (year s) (day s) ∷ [] = e ∙ read-accepted s h in
        let size : n ≡ record_length s = ap (λ (l : List ℕ). get_or l 1 0) same in
        let f = read-one-found s h in
        let r = room s _ _ _ f in
        record {
          headers = h;
          size = size;
          low = rw size r.0;
          high = rw size r.1;
          data_is = rw size (data-part s _ _ _ f);
          mission-is = ap (λ (l : List ℕ). get_or l 2 0) same;
          day-is = ap (λ (l : List ℕ). get_or l 3 0) same;
        }
    by (first g f) =
        let same : 0 ∷ n ∷ m ∷ d ∷ [] ≡ g = e ∙ first-judge (λ given. given) _ f in
        absurd (omega (arith, ap (λ (l : List ℕ). get_or l 0 0) same, first-refuses f (all-refuse s)))

-- Of an answer of one word or two: the refusal that the rules give.
pub refused : (s ws : List ℕ) → length ws ≤ 2 → ws ≡ read_rsr s → First (rsr_rules s) ws
unfolding read_rsr
refused s ws l e = by (outcome (rsr_rules s))
  where
    by : Outcome (rsr_rules s) → First (rsr_rules s) ws
    by (none h) = let n : length ws ≡ 4 = ap length (e ∙ read-accepted s h) in absurd (omega arith)
    by (first g f) = subst (First (rsr_rules s)) (sym (e ∙ first-judge (λ given. given) _ f)) f

-- The words of a refusal.
pub refused-by : (s : List ℕ) (e : RecordRefusal) → refusal_words e ≡ read_rsr s → First (rsr_rules s) (refusal_words e)
refused-by s (FaultRefusal f) h = refused s _ (lit< tt) h
refused-by s (Alone r) h = refused s _ (lit< tt) h
