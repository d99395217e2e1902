-- Why a stream stops at a record, by unpack's answer. Assumes nothing.
use Rattle.std.proofs.Common.{◌≡◌, ℕ, ◌-◌, ◌/◌, ◌≤◌, Bool, true, false, cond, ◌&&◌, ◌||◌, eqb, leb, ◌≢◌, ◌⊎◌, List, [], ◌∷◌, ◌++◌, length, get_or, drop, ℤ}
use Rattle.std.proofs.Common.{sym, refl, ap, ◌∙◌, inl, inr, true≢false, mul-le-mul, div-le_self, arith, length-drop, length-take, le-ltb, ne_eqb, leb-true}
use native.Mathlib.Nat.{div-le_of_le-mul}
use Rattle.std.specs.Prelude.{Result}
use Rattle.laws.proofs.Bools.{and_split}
use Rattle.refusals.specs.Judge.{Rule, ◌when◌}
use Rattle.refusals.specs.Table.{number_of}
use Rattle.refusals.specs.declared.Refusal.{Refusal}
use Rattle.refusals.proofs.Judged.{NoneHolds, First, here, later, Outcome, none, first, outcome, none-judge, first-judge}
use Rattle.refusals.proofs.Laws.{number-positive}
use Rattle.octets.specs.Octets.{part}
use Rattle.sfdu.specs.Nesting.{data_value_at}
use Rattle.sfdu.specs.Read.{fault_words, in_stream, read_rules, read_one, record_words, kind_of, record_length, accepts, data_part}
use Rattle.sfdu.specs.declared.Fault.{Fault}
use Rattle.sfdu.proofs.Within.{second-inside}
use Rattle.sfdu_headers.specs.Ranges.{judged_bytes}
use Rattle.sfdu_headers.specs.RsrRecord.{only, kind_rules, rsr_rules}
use Rattle.sfdu_headers.proofs.Rules.{first-refuses, refuse-append}
use Rattle.sfdu_headers.proofs.RsrRules.{all-refuse}
use Rattle.sfdu.specs.declared.RecordRefusal.{RecordRefusal}
use Rattle.sfdu_samples.specs.Packing.{per_sample_word}
use Rattle.sfdu_samples.proofs.Unpacking.{length-unpacked}
use Rattle.sfdu_samples.specs.Calls.{words_of, fills, size_of, rate_of, data_rules, unpack_rules, unpacking}
use Rattle.streaming.specs.Window.{window_size, stop_of}
use Rattle.rsr_samples.specs.Judging.{Unpacked, Samples, Stopped, most_numbers, judged_by, judging, LongEnough}
use Rattle.rsr_samples.specs.Parts.{numbers_of}

-- ---- an answer judged

pub judged-as : (place : ℕ) (s : List ℕ) (old new : List ℤ) (a : Result ℕ RecordRefusal) (j : Unpacked) → (words_of a, new) ≡ unpacking s old
    → j ≡ judged_by place s (words_of a) → (j, new) ≡ judging place s old
unfolding judging
judged-as place s old new a j e is = rw is (ap (λ (p : List ℕ × List ℤ). (judged_by place s p.0, p.1)) e)

pub words : {p : List ℕ × List ℤ} {new : List ℤ} {a b : Result ℕ RecordRefusal} → a ≡ b → (words_of a, new) ≡ p → p.0 ≡ words_of b
words {p} {new} {a} {b} is e = sym (ap (λ (p : List ℕ × List ℤ). p.0) e) ∙ ap words_of is

pub count-judged : (place : ℕ) (s : List ℕ) (n : ℕ) → Samples n ≡ judged_by place s (0 ∷ n ∷ [])
count-judged place s n = refl

pub fault-judged : (place : ℕ) (s : List ℕ) (f : Fault) → Stopped (stop_of place s (fault_words f)) ≡ judged_by place s (fault_words f)
fault-judged place s f = rw (ne_eqb (number_of f.refusal) 0 (number-positive f.refusal))

pub refusal-judged : (place : ℕ) (s : List ℕ) (r : Refusal)
    → Stopped (record { number = number_of r; beside = 0 }) ≡ judged_by place s (only (number_of r))
unfolding stop_of in_stream
refusal-judged place s r = rw (ne_eqb (number_of r) 0 (number-positive r))

-- ---- what unpack's rules give

-- No rule's second word is past the window.
abbrev near : List (Rule (List ℕ)) → Bool
near [] = true
near ((g when c) ∷ rules) = leb (get_or g 1 0) window_size && near rules

first-near : {rules : List (Rule (List ℕ))} {g : List ℕ} → First rules g → near rules ≡ true → get_or g 1 0 ≤ window_size
first-near (here {g} {rules}) r = leb-true _ _ (and_split (leb (get_or g 1 0) window_size) (near rules) r).0
first-near (later {g} {h} {rules} f) r = first-near f (and_split (leb (get_or h 1 0) window_size) (near rules) r).1

first_of : {A : Type 0} (xs : List (Rule A)) {ys : List (Rule A)} {g : A} → First (xs ++ ys) g → First xs g ⊎ First ys g
first_of [] f = inr f
first_of ((g when true) ∷ xs) here = inl here
first_of ((h when false) ∷ xs) {ys} {g} (later f) = by (first_of xs f)
  where
    by : First xs g ⊎ First ys g → First ((h when false) ∷ xs) g ⊎ First ys g
    by (inl x) = inl (later x)
    by (inr y) = inr y

kind-near : (s : List ℕ) → near (kind_rules s) ≡ true
unfolding judged_bytes
kind-near s = refl

module _ (s : List ℕ) (old : List ℤ) where
  abbrev more : List (Rule (List ℕ))
  more = data_rules (size_of s) (rate_of s) (data_part s) old

  abbrev accepting : List ℕ × List ℤ
  accepting = (0 ∷ length (numbers_of s) ∷ [], fills (numbers_of s) old)

  -- the words of a refusal, and of a record that is accepted
  refused-words : {g : List ℕ} → First (unpack_rules s old) g → (unpacking s old).0 ≡ g
  unfolding unpacking
  refused-words f = ap (λ (p : List ℕ × List ℤ). p.0) (first-judge (λ refusal. (refusal, old)) accepting f)

  accepted-none : NoneHolds (unpack_rules s old) → (unpacking s old).0 ≡ 0 ∷ length (numbers_of s) ∷ []
  unfolding unpacking
  accepted-none h = ap (λ (p : List ℕ × List ℤ). p.0) (none-judge (λ refusal. (refusal, old)) (unpack_rules s old) accepting h)

  read_first : {g : List ℕ} → First (read_rules s) g → read_one s ≡ g
  unfolding read_one
  read_first f = first-judge (λ given. given) (record_words (kind_of s) s) f

  pub accepted-words : get_or (unpacking s old).0 0 0 ≡ 0 → (unpacking s old).0 ≡ 0 ∷ length (numbers_of s) ∷ []
  accepted-words e = by (outcome (unpack_rules s old))
    where
      by : Outcome (unpack_rules s old) → (unpacking s old).0 ≡ 0 ∷ length (numbers_of s) ∷ []
      by (none h) = accepted-none h
      by (first g f) =
          let some = first-refuses f (refuse-append (rsr_rules s) more (all-refuse s) refl) in
          absurd (omega (arith, some, ap (λ (w : List ℕ). get_or w 0 0) (refused-words f)))

  -- the number that goes with a refusal is a place in the window
  pub second-near : (f : Fault) → length s ≤ window_size → (unpacking s old).0 ≡ fault_words f → f.at ≤ window_size
  second-near f h e = by (outcome (unpack_rules s old))
    where
      header : First (read_rules s) (fault_words f) ⊎ First (kind_rules s) (fault_words f) → f.at ≤ window_size
      header (inl r) = let inside = second-inside s (number_of f.refusal) f.at (read_first r) in omega arith
      header (inr k) = first-near k (kind-near s)

      of : First (rsr_rules s) (fault_words f) ⊎ First more (fault_words f) → f.at ≤ window_size
      of (inl r) = header (first_of (read_rules s) r)
      of (inr d) = first-near d refl

      by : Outcome (unpack_rules s old) → f.at ≤ window_size
      by (none n) = absurd (number-positive f.refusal (cc (e, accepted-none n)))
      by (first g r) = let same : g ≡ fault_words f = sym (refused-words r) ∙ e in of (first_of (rsr_rules s) (rw same at r))

-- ---- the list is long enough

-- A rule gives 35, and applies.
abbrev full : List (Rule (List ℕ)) → Bool
full [] = false
full ((g when c) ∷ rules) = (eqb (get_or g 0 0) 35 && c) || full rules

first-full : {rules : List (Rule (List ℕ))} {g : List ℕ} → First rules g → full rules ≡ false → get_or g 0 0 ≢ 35
first-full (here {g} {rules}) never is = absurd (true≢false (sym (rw is) ∙ never))
first-full (later {g} {h} {rules} f) never is = first-full f (by (eqb (get_or h 0 0) 35) never) is
  where
    by : (b : Bool) → ((b && false) || full rules) ≡ false → full rules ≡ false
    by true e = e
    by false e = e

few-numbers : (s : List ℕ) → length s ≤ window_size → length (numbers_of s) ≤ most_numbers
unfolding data_part part
few-numbers s h =
    let d = data_part s in
    let words : length d / 4 ≤ 16384 = div-le_of_le-mul 4 (omega (arith, short (accepts s))) in
    let each : per_sample_word (size_of s) ≤ 32 = omega (arith, div-le_self 16 (size_of s)) in
    rw (length-unpacked (size_of s) (length d / 4) d) (mul-le-mul words each)
  where
    short : (b : Bool) → length (cond b (part s (data_value_at (kind_of s)) (record_length s - data_value_at (kind_of s))) []) ≤ length s
    short true =
        let rest = drop (data_value_at (kind_of s)) s in
        omega (arith, length-take (record_length s - data_value_at (kind_of s)) rest, length-drop (data_value_at (kind_of s)) s)
    short false = omega arith

pub long-enough : LongEnough
unfolding judged_bytes
long-enough s old fits room = by (outcome (unpack_rules s old))
  where
    none-full : full (unpack_rules s old) ≡ false
    none-full = rw (le-ltb (length old) (length (numbers_of s)) (omega (arith, room, few-numbers s fits)))

    by : Outcome (unpack_rules s old) → get_or (unpacking s old).0 0 0 ≢ 35
    by (none n) is = absurd (omega (arith, ap (λ (w : List ℕ). get_or w 0 0) (accepted-none s old n)))
    by (first g f) is = first-full f none-full (sym (ap (λ (w : List ℕ). get_or w 0 0) (refused-words s old f)) ∙ is)
