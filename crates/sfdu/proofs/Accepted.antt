-- What is known of a slice that read one accepts. Assumes nothing.
use Prim.Native.Nat.{ℕ, ◌+◌, ◌-◌, ◌≤◌, ◌<◌}
use native.Mathlib.Omega.{arith}
use mathlib.Core.Bool.{Bool, true, false, not, ◌&&◌, ◌||◌, false≢true}
use mathlib.Core.List.{List, [], ◌∷◌}
use mathlib.Core.Path.{◌≡◌, refl, sym, ap, ◌∙◌}
use borrow.Author.Tests.{leb-true, ltb-true, ltb-false, eqb-true, not-false}
use lib.Dec.{eqb, ltb}
use lib.ListN.{length}
use Rattle.std.specs.Prelude.{Result, Ok, Err}
use Rattle.laws.proofs.Bools.{and_split}
use Rattle.refusals.specs.Table.{number_of}
use Rattle.refusals.proofs.Judged.{
  NoneHolds,
  Outcome,
  none,
  first,
  outcome,
  condition_at,
  none-at,
  none-judge,
  none-hold,
  none-applies,
  first-judge,
  all_pass,
  first_passes,
}
use Rattle.octets.specs.Octets.{same_at}
use Rattle.sfdu.specs.declared.Kind.{Kind}
use Rattle.sfdu.specs.declared.Kind.TheVariants.{Telemetry, Rsr}
use Rattle.sfdu.specs.declared.Fault.{Fault}
use Rattle.sfdu.specs.declared.Record.{Record}
use Rattle.sfdu.specs.Nesting.{
  kind_number,
  authority,
  version_class,
  authority_at,
  version_class_at,
  tag_size,
  label_size,
  aggregation_at,
  primary_at,
  secondary_at,
  data_at,
  data_value_at,
  aggregation_length,
  primary_length,
  secondary_length,
  aggregation_type,
  primary_type,
  secondary_type,
  data_type,
  least_label_length,
  most_label_length,
}
use Rattle.sfdu.specs.Read.{
  words_of,
  primary_words,
  has_kind,
  kind_of,
  label_length,
  record_length,
  block_type,
  block_length,
  length_in_range,
  primary_of,
  read_rules,
  accepts,
  record_words,
  read_one,
}

pub in-range : (k : Kind) (s : List ℕ) → length_in_range k s ≡ true
    → (least_label_length k ≤ label_length s) × (label_length s ≤ most_label_length k)
unfolding length_in_range
in-range k s e = let p = and_split _ _ e in (leb-true _ _ p.0, leb-true _ _ p.1)

pub record-length : (s : List ℕ) (n : ℕ) → n ≡ label_length s → label_size + n ≡ record_length s
unfolding record_length
record-length s n e = rw e

-- The block at an offset has that type and that length.
pub record IsBlock (s : List ℕ) (at type size : ℕ) : Type 0 where
  pub class : block_type s at ≡ type
  pub size_is : block_length s at ≡ size

-- ---- the words of an accepted slice

pub none-holds : (s : List ℕ) → accepts s ≡ true → NoneHolds (read_rules s)
unfolding accepts
none-holds s e = none-hold (read_rules s) e

pub accepted-words : (s : List ℕ) → accepts s ≡ true → read_one s ≡ record_words (kind_of s) s
unfolding read_one
accepted-words s e = none-judge (λ given. given) (read_rules s) _ (none-holds s e)

-- The words of a refusal of read one: a number from 1 to 11, and a second one.
pub record RefusalWords (w : List ℕ) : Type 0 where
  pub number : ℕ
  pub second : ℕ
  pub positive : 0 < number
  pub small : number < 12
  pub words : w ≡ number ∷ second ∷ []

-- A test of words that they are a refusal's.
abbrev refusing : List ℕ → Bool
refusing [] = false
refusing (n ∷ []) = false
refusing (n ∷ m ∷ []) = ltb 0 n && ltb n 12
refusing (n ∷ m ∷ k ∷ more) = false

refuses : (w : List ℕ) → refusing w ≡ true → RefusalWords w
refuses [] e = absurd (false≢true e)
refuses (n ∷ []) e = absurd (false≢true e)
refuses (n ∷ m ∷ []) e =
    let b = and_split (ltb 0 n) (ltb n 12) e in
    record { number = n; second = m; positive = ltb-true 0 n b.0; small = ltb-true n 12 b.1; words = refl }
refuses (n ∷ m ∷ k ∷ more) e = absurd (false≢true e)

all-refuse : (s : List ℕ) → all_pass refusing (read_rules s) ≡ true
all-refuse s = refl

-- Read one accepts, or what it answers is a refusal.
pub data Reads (s : List ℕ) : Type 0 where
  accepted-one : accepts s ≡ true → Reads s
  refused-one : RefusalWords (read_one s) → Reads s

pub reads : (s : List ℕ) → Reads s
unfolding read_one accepts
reads s = by (outcome (read_rules s))
  where
    by : Outcome (read_rules s) → Reads s
    by (none n) = accepted-one (none-applies (read_rules s) n)
    by (first g f) = refused-one (rw (first-judge (λ given. given) (record_words (kind_of s) s) f) (refuses _ (first_passes refusing (all-refuse s) f)))

pub words-accepted : (s rest : List ℕ) → read_one s ≡ 0 ∷ rest → accepts s ≡ true
words-accepted s rest e = by (reads s)
  where
    by : Reads s → accepts s ≡ true
    by (accepted-one a) = a
    by (refused-one r) = let z : r.number ≡ 0 = cc (r.words, e) in absurd (omega (arith, r.positive))

pub words-refused : (s : List ℕ) (n m : ℕ) → read_one s ≡ n ∷ m ∷ [] → accepts s ≡ false
words-refused s n m e = by (accepts s) refl
  where
    by : (b : Bool) → accepts s ≡ b → b ≡ false
    by true a = cc (accepted-words s a, e)
    by false a = refl

-- ---- each fact by its name

pub same_kind : (k l : Kind) → kind_number k ≡ kind_number l → k ≡ l
same_kind Telemetry Telemetry e = refl
same_kind Telemetry Rsr e = absurd (omega arith)
same_kind Rsr Telemetry e = absurd (omega arith)
same_kind Rsr Rsr e = refl

-- Of an answer `0 ∷ kind ∷ n ∷ rest`.
pub record Found (s : List ℕ) (k : Kind) (n : ℕ) (rest : List ℕ) : Type 0 where
  pub accepted : accepts s ≡ true
  pub kind : k ≡ kind_of s
  pub size : n ≡ record_length s
  pub words : 0 ∷ kind_number k ∷ n ∷ rest ≡ record_words (kind_of s) s

pub found : (s : List ℕ) (k : Kind) (n : ℕ) (rest : List ℕ) → 0 ∷ kind_number k ∷ n ∷ rest ≡ read_one s → Found s k n rest
found s k n rest e =
    let a : accepts s ≡ true = words-accepted s (kind_number k ∷ n ∷ rest) (sym e) in
    let w : 0 ∷ kind_number k ∷ n ∷ rest ≡ record_words (kind_of s) s = e ∙ accepted-words s a in
    let same : kind_number k ≡ kind_number (kind_of s) = cc in
    let size : n ≡ record_length s = cc in
    record { accepted = a; kind = same_kind k (kind_of s) same; size = size; words = w }

-- The same of the answer itself, a record.
pub record-found : (s : List ℕ) {answer : Result Record Fault} {r : Record} → answer ≡ Ok r → words_of answer ≡ read_one s
    → Found s r.kind r.size (primary_words r.primary)
record-found s {answer} {r} is read = found s r.kind r.size (primary_words r.primary) (sym (ap words_of is) ∙ read)

-- The same of the answer itself, a refusal.
pub refusal-found : (s : List ℕ) {answer : Result Record Fault} {f : Fault} → answer ≡ Err f → words_of answer ≡ read_one s → accepts s ≡ false
refusal-found s {answer} {f} is read = words-refused s (number_of f.refusal) f.at (sym read ∙ ap words_of is)

pub primary-found : {s : List ℕ} {k : Kind} {n : ℕ} {rest : List ℕ} → Found s k n rest → rest ≡ primary_of s
primary-found f = let w = f.words in cc

pub record Accepted (s : List ℕ) : Type 0 where
  pub label : label_size ≤ length s
  pub authority-right : same_at s authority_at authority 0 tag_size ≡ true
  pub version_class-right : same_at s version_class_at version_class 0 tag_size ≡ true
  pub kind-right : has_kind (kind_of s) s ≡ true
  pub least : least_label_length (kind_of s) ≤ label_length s
  pub most : label_length s ≤ most_label_length (kind_of s)
  pub size : label_size + label_length s ≡ record_length s
  pub whole : record_length s ≤ length s
  pub aggregation : IsBlock s aggregation_at aggregation_type (aggregation_length (kind_of s))
  pub primary : IsBlock s primary_at primary_type primary_length
  pub secondary : IsBlock s secondary_at (secondary_type (kind_of s)) (secondary_length (kind_of s))
  pub data-type : block_type s (data_at (kind_of s)) ≡ data_type
  pub data-length : block_length s (data_at (kind_of s)) ≡ record_length s - data_value_at (kind_of s)

-- One of the two kinds is there, so the kind that is picked is there.
picked : (s : List ℕ) → (has_kind Telemetry s || has_kind Rsr s) ≡ true → has_kind (kind_of s) s ≡ true
unfolding kind_of
picked s e = by (has_kind Telemetry s) refl
  where
    by : (b : Bool) → has_kind Telemetry s ≡ b → has_kind (kind_of s) s ≡ true
    by true t = rw (t, t)
    by false t = rw (t, rw t at e)

block : {s : List ℕ} {at type size : ℕ} → not (eqb (block_type s at) type) ≡ false → not (eqb (block_length s at) size) ≡ false
    → IsBlock s at type size
block a b = record { class = eqb-true _ _ (not-false _ a); size_is = eqb-true _ _ (not-false _ b) }

pub accepted : (s : List ℕ) → accepts s ≡ true → Accepted s
accepted s a =
    let not-refused : (i : ℕ) → condition_at (read_rules s) i ≡ false = none-at (read_rules s) (none-holds s a) in
    let r = in-range (kind_of s) s (not-false _ (not-refused 4)) in
    record {
      label = ltb-false _ _ (not-refused 0);
      authority-right = not-false _ (not-refused 1);
      version_class-right = not-false _ (not-refused 2);
      kind-right = picked s (not-false _ (not-refused 3));
      least = r.0;
      most = r.1;
      size = record-length s (label_length s) refl;
      whole = ltb-false _ _ (not-refused 5);
      aggregation = block (not-refused 6) (not-refused 7);
      primary = block (not-refused 8) (not-refused 9);
      secondary = block (not-refused 10) (not-refused 11);
      data-type = eqb-true _ _ (not-false _ (not-refused 12));
      data-length = eqb-true _ _ (not-false _ (not-refused 13));
    }
