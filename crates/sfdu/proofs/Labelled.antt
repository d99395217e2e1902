-- What the tests of a label's tags say of the rules of read one, for any function that is applied to what they give. Assumes nothing.
use Prim.Native.Nat.{ℕ, ◌≤◌}
use native.Mathlib.Omega.{arith}
use mathlib.Core.Bool.{Bool, true, false, not, cond}
use mathlib.Core.List.{List, ◌++◌}
use mathlib.Core.Path.{◌≡◌, ◌∙◌}
use borrow.Author.Tests.{le-ltb}
use lib.ListN.{length}
use Rattle.std.specs.Prelude.{Some, None}
use Rattle.laws.proofs.Bools.{passed}
use Rattle.refusals.specs.Judge.{Rule, judge, answered, none_applies}
use Rattle.octets.specs.Octets.{number_at, same_at}
use Rattle.octets.proofs.Laws.{Bytes}
use Rattle.sfdu.specs.declared.Kind.{Kind}
use Rattle.sfdu.specs.declared.Kind.TheVariants.{Telemetry, Rsr}
use Rattle.sfdu.specs.Nesting.{authority, version_class, authority_at, version_class_at, kind_at, tag_size, label_size}
use Rattle.sfdu.specs.Read.{has_kind, kind_of, record_length, record_words, ◌giving◌, read_rules, length_rules, header_rules, data_rules, accepts, read_one}
use Rattle.sfdu.specs.inner.Checked.{whole_size}
use Rattle.sfdu.proofs.Wholes.{tag_number, tag_same, tag-other}

-- There is a label, and its first two tags are right.
pub record Labelled (s : List ℕ) : Type 0 where
  pub bytes : Bytes s
  pub long : label_size ≤ length s
  pub ours : same_at s authority_at authority 0 tag_size ≡ true
  pub class : same_at s version_class_at version_class 0 tag_size ≡ true

-- By what the code's tests say.
pub labelled : (s : List ℕ) {a b : Bool} → Bytes s → label_size ≤ length s → a ≡ same_at s authority_at authority 0 tag_size → not a ≡ false
    → b ≡ same_at s version_class_at version_class 0 tag_size → not b ≡ false → Labelled s
labelled s bytes long a p b q = record { bytes = bytes; long = long; ours = passed a p; class = passed b q }

-- The rules behind the tags, for a kind.
abbrev kind_rules : Kind → List ℕ → List (Rule (List ℕ))
kind_rules k s = length_rules k s ++ header_rules k s ++ data_rules k s

-- A tag that is neither kind's is no kind's.
pub no_kind : (n : ℕ) → (n ≡ tag_number Telemetry → ⊥) → (n ≡ tag_number Rsr → ⊥) → (k : Kind) → n ≡ tag_number k → ⊥
no_kind n t r Telemetry = t
no_kind n t r Rsr = r

module _ (s : List ℕ) (l : Labelled s) where
  kind-is : (k : Kind) → number_at s kind_at 4 ≡ tag_number k → kind_of s ≡ k
  unfolding kind_of
  kind-is Telemetry e = rw (tag_same Telemetry s l.bytes l.long e)
  kind-is Rsr e = rw (tag-other Telemetry s l.bytes l.long (λ q. omega arith))

  -- Where the third tag is that of a kind, the kind's rules decide; where it is no kind's, 4 is given.
  judged-as : {B : Type 0} (f : List ℕ → B) (answer : B) (k : Kind) → number_at s kind_at 4 ≡ tag_number k
      → judge f (read_rules s) answer ≡ judge f (kind_rules k s) answer
  unfolding judge
  judged-as f answer Telemetry e =
      rw (le-ltb _ _ l.long, l.ours, l.class, tag_same Telemetry s l.bytes l.long e, kind-is Telemetry e)
  judged-as f answer Rsr e =
      let other = tag-other Telemetry s l.bytes l.long (λ q. omega arith) in
      rw (le-ltb _ _ l.long, l.ours, l.class, other, tag_same Rsr s l.bytes l.long e, kind-is Rsr e)

  judged-unknown : {B : Type 0} (f : List ℕ → B) (answer : B) → ((k : Kind) → number_at s kind_at 4 ≡ tag_number k → ⊥)
      → judge f (read_rules s) answer ≡ f (4 giving kind_at)
  unfolding judge
  judged-unknown f answer h =
      let no : (k : Kind) → has_kind k s ≡ false = λ k. tag-other k s l.bytes l.long (h k) in
      rw (le-ltb _ _ l.long, l.ours, l.class, no Telemetry, no Rsr)

  pub read_as : (k : Kind) → number_at s kind_at 4 ≡ tag_number k → read_one s ≡ answered (kind_rules k s) (record_words k s)
  unfolding read_one
  read_as k e = judged-as (λ given. given) _ k e ∙ rw (kind-is k e)

  pub read-unknown : ((k : Kind) → number_at s kind_at 4 ≡ tag_number k → ⊥) → read_one s ≡ 4 giving kind_at
  unfolding read_one
  read-unknown h = judged-unknown (λ given. given) _ h

  pub whole-as : (k : Kind) → number_at s kind_at 4 ≡ tag_number k → whole_size s ≡ cond (none_applies (kind_rules k s)) (Some (record_length s)) None
  unfolding whole_size accepts
  whole-as k e = rw (judged-as (λ given. false) true k e)

  pub whole-unknown : ((k : Kind) → number_at s kind_at 4 ≡ tag_number k → ⊥) → whole_size s ≡ None
  unfolding whole_size accepts
  whole-unknown h = rw (judged-unknown (λ given. false) true h)
