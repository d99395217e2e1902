-- Read headers, case by case: read one's refusals first, then 15, then the fields. Assumes nothing.
use Prim.Native.Nat.{ℕ, ◌≤◌}
use native.Mathlib.Omega.{arith}
use mathlib.Core.Bool.{true}
use mathlib.Core.List.{List, [], ◌∷◌, map}
use mathlib.Core.Path.{◌≡◌, sym, ap, ◌∙◌}
use borrow.Author.Tests.{eq-eqb, ne_eqb}
use Rattle.refusals.specs.Judge.{judge}
use Rattle.refusals.proofs.Judged.{Outcome, none, first, outcome, none-judge, first-judge}
use lib.ListN.{length}
use Rattle.sfdu.specs.declared.Kind.{Kind}
use Rattle.sfdu.specs.Nesting.{kind_number, data_value_at}
use Rattle.sfdu.specs.Read.{kind_of, record_length, primary_of, read_rules, accepts, record_words, read_one}
use Rattle.sfdu.proofs.Accepted.{Found, none-holds, primary-found}
use Rattle.sfdu.proofs.Parts.{room}
use Rattle.sfdu_headers.specs.Words.{number}
use Rattle.sfdu_headers.specs.Headers.{wrong_kind, judged_fields, read_headers}

module _ (wanted : ℕ) (s : List ℕ) where
  pub refused-first : (n m : ℕ) → read_one s ≡ n ∷ m ∷ [] → read_headers wanted s ≡ number n ∷ number m ∷ []
  unfolding read_headers read_one
  refused-first n m e = by (outcome (read_rules s))
    where
      by : Outcome (read_rules s) → read_headers wanted s ≡ number n ∷ number m ∷ []
      by (none h) =
          cc (none-judge (λ given. given) (read_rules s) (record_words (kind_of s) s) h, e)
      by (first g f) = first-judge (map number) _ f ∙ ap (map number) (sym (first-judge (λ given. given) (record_words (kind_of s) s) f) ∙ e)

  pub wrong-kind : accepts s ≡ true → (wanted ≡ kind_number (kind_of s) → ⊥) → read_headers wanted s ≡ wrong_kind
  unfolding read_headers judge
  wrong-kind a h = none-judge (map number) (read_rules s) _ (none-holds s a) ∙ rw (ne_eqb _ _ h)

  pub right-kind : accepts s ≡ true → wanted ≡ kind_number (kind_of s) → read_headers wanted s ≡ judged_fields (kind_of s) s
  unfolding read_headers judge
  right-kind a e = none-judge (map number) (read_rules s) _ (none-holds s a) ∙ rw (eq-eqb _ _ e)

-- ---- an arm of the call: read one answers a record, of the wanted kind k

pub record Arm (wanted : ℕ) (s : List ℕ) (k : Kind) (size : ℕ) (rest : List ℕ) : Type 0 where
  pub size_is : size ≡ record_length s
  pub primary-is : rest ≡ primary_of s
  pub room : data_value_at k ≤ length s
  pub reads : judged_fields k s ≡ read_headers wanted s

pub arm_is : (s : List ℕ) {wanted : ℕ} {kind : Kind} {size : ℕ} {rest : List ℕ} → Found s kind size rest → (k : Kind) → kind ≡ k → wanted ≡ kind_number kind
    → Arm wanted s k size rest
arm_is s {wanted} f k e w =
    let long = room s _ _ _ f in
    let same = right-kind wanted s f.accepted (w ∙ ap kind_number f.kind) in
    record {
      size_is = f.size;
      primary-is = primary-found f;
      room = omega (arith, ap data_value_at e, long.0, long.1);
      reads = sym (same ∙ ap (λ (x : Kind). judged_fields x s) (sym f.kind ∙ e));
    }
