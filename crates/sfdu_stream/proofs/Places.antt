-- A place in a stream: what is known where a whole record stands, and where none does. Assumes nothing.
use Prim.Native.Nat.{ℕ, ◌+◌, ◌-◌, ◌≤◌, ◌<◌}
use native.Mathlib.Omega.{arith}
use mathlib.Core.Bool.{Bool, true, false, cond, false≢true}
use mathlib.Core.List.{List, [], ◌∷◌}
use mathlib.Core.Path.{◌≡◌, refl, sym, ap, ◌∙◌}
use Rattle.std.specs.Prelude.{Option, Some, None, Ok}
use lib.Dec.{eqb, leb}
use lib.ListN.{length, take, drop, length-drop}
use lib.Seq.{take-length}
use borrow.Author.Tests.{le-leb, lt-leb, leb-true, leb-false, eq-eqb, ne_eqb}
use Rattle.refusals.specs.Judge.{judge}
use Rattle.refusals.proofs.Judged.{Outcome, none, first, outcome, none-judge, first-judge}
use Rattle.sfdu.specs.declared.Kind.{Kind}
use Rattle.sfdu.specs.declared.Record.{Record}
use Rattle.sfdu.specs.Nesting.{kind_number, data_value_at}
use Rattle.sfdu.specs.Read.{primary_words, kind_of, record_length, read_rules, in_stream, accepts, record_words, read_one}
use Rattle.sfdu.specs.inner.Checked.{whole_size}
use Rattle.sfdu.proofs.Placed.{placed}
use Rattle.sfdu.proofs.Accepted.{accepted, found, words-refused, accepted-words, Reads, accepted-one, refused-one, reads}
use Rattle.sfdu.proofs.Within.{second-inside}
use Rattle.sfdu_stream.specs.Walk.{found_words, at_end, whole, past, full, step, whole_by, refusal_by}
use Rattle.sfdu_stream.specs.inner.Refusal.{refusal}
use Rattle.sfdu_stream.specs.inner.Record.{RecordAt}

-- Where a whole record stands, the place past it lies further on, and within the stream.
pub record Whole (s : List ℕ) (at : ℕ) : Type 0 where
  pub further : at < past s at
  pub within : past s at ≤ length s

pub whole-record : (s : List ℕ) (at : ℕ) → whole s at ≡ true → Whole s at
unfolding whole whole_by accepts past
whole-record s at e =
    let a = accepted (drop at s) e in
    let l = length-drop at s in
    record { further = omega arith; within = omega arith }

-- At or past the end there is none.
pub none-at-end : (s : List ℕ) (at : ℕ) → length s ≤ at → whole s at ≡ false
none-at-end s at h = by (whole s at) refl
  where
    by : (b : Bool) → whole s at ≡ b → b ≡ false
    by true e = let w = whole-record s at e in absurd (omega arith)
    by false e = refl

-- The end, as the code tests for it.
end-there : (s : List ℕ) (at : ℕ) → eqb (length (drop at s)) 0 ≡ leb (length s) at
end-there s at = by (leb (length s) at) refl
  where
    by : (b : Bool) → leb (length s) at ≡ b → eqb (length (drop at s)) 0 ≡ b
    by true t = eq-eqb (length (drop at s)) 0 (omega (arith, leb-true (length s) at t, length-drop at s))
    by false t = ne_eqb (length (drop at s)) 0 (λ z. omega (arith, z, leb-false (length s) at t, length-drop at s))

pub refusal_is : (s : List ℕ) (at : ℕ) → refusal s at ≡ cond (leb (length s) at) at_end (judge (in_stream at) (read_rules (drop at s)) full)
unfolding refusal refusal_by
refusal_is s at = rw (end-there s at)

-- The part of the stream from a place on, as the code cuts it out.
pub from-there : (s : List ℕ) (at : ℕ) → take (length s - at) (drop at s) ≡ drop at s
from-there s at = rw (← length-drop at s, take-length)

-- The headers of a whole record are within the stream.
pub headers-there : (s : List ℕ) (at : ℕ) (k : Kind) (n : ℕ) → RecordAt s at k n → data_value_at k ≤ length (take (length s - at) (drop at s))
unfolding whole whole_by accepts
headers-there s at k n r =
    let a = accepted (drop at s) r.is_whole in
    let l : length (take (length s - at) (drop at s)) ≡ length (drop at s) = ap length (from-there s at) in
    let p = placed (kind_of (drop at s)) in
    rw r.kind (omega arith)

-- ---- the size of the record there, if one is whole

-- The place n bytes on is the one past a whole record.
pub record OnePast (s : List ℕ) (at n : ℕ) : Type 0 where
  pub is_whole : whole s at ≡ true
  pub next : at + n ≡ past s at
  pub further : at < at + n
  pub within : at + n ≤ length s

module _ (s : List ℕ) (at : ℕ) (found : Option ℕ) (e : found ≡ whole_size (take (length s - at) (drop at s))) where
  size-there : found ≡ cond (whole s at) (Some (record_length (drop at s))) None
  unfolding whole_size whole whole_by accepts
  size-there = e ∙ ap whole_size (from-there s at)

  pub size-whole : (n : ℕ) → found ≡ Some n → OnePast s at n
  unfolding past
  size-whole n h = by (whole s at) refl
    where
      by : (b : Bool) → whole s at ≡ b → OnePast s at n
      by true w =
          let size : n ≡ record_length (drop at s) = cc (h, rw w at size-there) in
          let m : at + n ≡ past s at = ap (λ (m : ℕ). at + m) size in
          let r = whole-record s at w in
          record { is_whole = w; next = m; further = omega (arith, m, r.further); within = omega (arith, m, r.within) }
      by false w = cc (h, rw w at size-there)

  pub size_none : found ≡ None → whole s at ≡ false
  size_none h = by (whole s at) refl
    where
      by : (b : Bool) → whole s at ≡ b → whole s at ≡ false
      by true w = cc (h, rw w at size-there)
      by false w = w

-- ---- a step, from what read one answers at the place

pub step-done : (s : List ℕ) (at : ℕ) → length s ≤ at → step s at ≡ at ∷ []
unfolding step
step-done s at h = rw (none-at-end s at h, le-leb (length s) at h)

pub step-found : (s : List ℕ) (at : ℕ) (k : Kind) (n : ℕ) (rest : List ℕ) → at < length s → 0 ∷ kind_number k ∷ n ∷ rest ≡ read_one (drop at s)
    → step s at ≡ (at + n) ∷ 0 ∷ kind_number k ∷ n ∷ rest
unfolding step whole whole_by accepts past
step-found s at k n rest h e = let f = found (drop at s) k n rest e in rw (f.accepted, lt-leb (length s) at h, ← e, ← f.size)

pub step-refused : (s : List ℕ) (at n m : ℕ) → at < length s → n ∷ m ∷ [] ≡ read_one (drop at s) → step s at ≡ at ∷ n ∷ m ∷ []
unfolding step whole whole_by accepts
step-refused s at n m h e = rw (words-refused (drop at s) n m (sym e), lt-leb (length s) at h, ← e)

-- ---- what a step's words say of the place

-- Read one's refusal is what the first rule that applies gives, whatever is made of it.
pub refused-by : (f : List ℕ → List ℕ) (s w : List ℕ) → (accepts s ≡ false) → judge f (read_rules s) w ≡ f (read_one s)
unfolding read_one accepts
refused-by f s w e = by (outcome (read_rules s))
  where
    by : Outcome (read_rules s) → judge f (read_rules s) w ≡ f (read_one s)
    by (none h) = absurd (false≢true (sym e ∙ none-judge (λ given. false) (read_rules s) true h))
    by (first g r) = first-judge f w r ∙ sym (ap f (first-judge (λ given. given) (record_words (kind_of s) s) r))

-- A record was found.
pub record StepFound (s : List ℕ) (at : ℕ) (k : Kind) (n next : ℕ) : Type 0 where
  pub there : RecordAt s at k n
  pub moved : next ≡ past s at

-- None was: why not.
pub record StepNone (s : List ℕ) (at place : ℕ) (why : List ℕ) : Type 0 where
  pub none : whole s at ≡ false
  pub unmoved : place ≡ at
  pub number : refusal s at ≡ why

found-words : (s : List ℕ) (at : ℕ) (k : Kind) (n : ℕ) (rest : List ℕ) (next : ℕ) → next ∷ 0 ∷ kind_number k ∷ n ∷ rest ≡ step s at
    → 0 ∷ kind_number k ∷ n ∷ rest ≡ read_one (drop at s)
unfolding step
found-words s at k n rest next e = by (leb (length s) at) refl
  where
    by : (b : Bool) → leb (length s) at ≡ b → 0 ∷ kind_number k ∷ n ∷ rest ≡ read_one (drop at s)
    by true t = let z = rw t at e in cc
    by false t = let z = rw t at e in cc

pub found-there : (s : List ℕ) (at : ℕ) (k : Kind) (n : ℕ) (rest : List ℕ) (next : ℕ) → next ∷ 0 ∷ kind_number k ∷ n ∷ rest ≡ step s at
    → StepFound s at k n next
unfolding step whole whole_by accepts
found-there s at k n rest next e =
    let f = found (drop at s) k n rest (found-words s at k n rest next e) in
    let z = rw f.accepted at e in
    record { there = record { is_whole = f.accepted; kind = f.kind; size = f.size }; moved = cc }

-- Read one's answer has a first word.
no_words : (s : List ℕ) → [] ≡ read_one s → ⊥
no_words s e = by (reads s)
  where
    by : Reads s → ⊥
    by (accepted-one a) = false≢true (cc (accepted-words s a, e))
    by (refused-one r) = false≢true (cc (r.words, e))

pub done-there : (s : List ℕ) (at place : ℕ) → place ∷ [] ≡ step s at → StepNone s at place at_end
unfolding step
done-there s at place e = by (leb (length s) at) refl
  where
    by : (b : Bool) → leb (length s) at ≡ b → StepNone s at place at_end
    by true t =
        let n = none-at-end s at (leb-true (length s) at t) in
        let z = rw (n, t) at e in
        record { none = n; unmoved = cc; number = refusal_is s at ∙ rw t }
    by false t = let z = rw t at e in absurd (no_words (drop at s) (cc))

pub refused-words : (s : List ℕ) (at place n m : ℕ) → place ∷ n ∷ m ∷ [] ≡ step s at → read_one (drop at s) ≡ n ∷ m ∷ []
unfolding step
refused-words s at place n m e = by (leb (length s) at) refl
  where
    by : (b : Bool) → leb (length s) at ≡ b → read_one (drop at s) ≡ n ∷ m ∷ []
    by true t = let z = rw t at e in cc
    by false t = let z = rw t at e in cc

pub refused-there : (s : List ℕ) (at place n m : ℕ) → place ∷ n ∷ m ∷ [] ≡ step s at → StepNone s at place (in_stream at (n ∷ m ∷ []))
unfolding step whole whole_by accepts
refused-there s at place n m e = by (leb (length s) at) refl
  where
    by : (b : Bool) → leb (length s) at ≡ b → StepNone s at place (in_stream at (n ∷ m ∷ []))
    by true t = let z = rw t at e in absurd (false≢true cc)
    by false t =
        let r : read_one (drop at s) ≡ n ∷ m ∷ [] = refused-words s at place n m e in
        let n = words-refused (drop at s) _ _ r in
        let z = rw n at e in
        record { none = n; unmoved = cc; number = refusal_is s at ∙ rw t (refused-by (in_stream at) (drop at s) full n ∙ ap (in_stream at) r) }

-- The offset, counted from the stream's start, lies in the stream.
pub offset-there : (s : List ℕ) (at place n m : ℕ) → place ∷ n ∷ m ∷ [] ≡ step s at → at + m ≤ length s
unfolding step
offset-there s at place n m e = by (leb (length s) at) refl
  where
    by : (b : Bool) → leb (length s) at ≡ b → at + m ≤ length s
    by true t = let z = rw t at e in absurd (false≢true cc)
    by false t =
        let h : at < length s = leb-false (length s) at t in
        let i = second-inside (drop at s) n m (refused-words s at place n m e) in
        let l = length-drop at s in
        omega arith

-- A step that is not refused where no whole record stands is done.
pub no-record : (s : List ℕ) (at place : ℕ) (found : Option Record) → whole s at ≡ false → place ∷ found_words (Ok found) ≡ step s at → at_end ≡ refusal s at
no-record s at place (Some r) n e =
    let f = found-there s at r.kind r.size (primary_words r.primary) place e in absurd (false≢true (sym n ∙ f.there.is_whole))
no-record s at place None n e = sym (done-there s at place e).number
