-- Laws of listings: by any rules, and by read one's. Assumes nothing.
use Prim.Native.Nat.{ℕ, zero, suc, ◌+◌, ◌≤◌, ◌<◌}
use native.Mathlib.Omega.{arith}
use mathlib.Core.Bool.{Bool, true, false}
use mathlib.Core.List.{List, [], ◌∷◌}
use mathlib.Core.Path.{◌≡◌, refl, sym, ap, ◌∙◌}
use lib.ListN.{length, drop, length-drop}
use lib.Seq.{drop-drop}
use Rattle.sfdu.specs.Read.{record_length, read_rules, accepts}
use Rattle.sfdu.proofs.Accepted.{accepted}
use Rattle.sfdu_stream.specs.Walk.{Rules, whole_by, refusal_by, whole, past, full}
use Rattle.sfdu_stream.specs.inner.Refusal.{refusal}
use Rattle.sfdu_stream.specs.Listing.{Listing, entry_of, entry_at, stopped, prepend, listing_by, listing, walk_by, walk_from}

-- ---- one place, by any rules

-- What is made of the place behind the record at the start of s.
abbrev pub behind : ℕ → List ℕ → (ℕ → List ℕ → Listing) → Listing
behind place s rest = rest (place + record_length s) (drop (record_length s) s)

module _ (rules : Rules) (place : ℕ) (s : List ℕ) where
  pub lists-by : (free : ℕ) → whole_by rules s ≡ true
      → listing_by rules (suc free) place s ≡ prepend (entry_of place s ∷ []) (behind place s (listing_by rules free))
  unfolding listing_by
  lists-by free e = rw e

  pub none-by : (free : ℕ) → whole_by rules s ≡ false → listing_by rules free place s ≡ stopped place (refusal_by rules place s)
  unfolding listing_by
  none-by zero e = rw e
  none-by (suc free) e = rw e

  pub full_by : whole_by rules s ≡ true → listing_by rules 0 place s ≡ stopped place full
  unfolding listing_by
  full_by e = rw e

-- ---- the walk, by rules that find a whole record within the slice alone

abbrev pub Bounded : Rules → Type 0
Bounded rules = (s : List ℕ) → whole_by rules s ≡ true → (0 < record_length s) × (record_length s ≤ length s)

module _ (rules : Rules) (bounded : Bounded rules) where
  none-empty : (s : List ℕ) → length s ≤ 0 → whole_by rules s ≡ false
  none-empty s h = by (whole_by rules s) refl
    where
      by : (b : Bool) → whole_by rules s ≡ b → b ≡ false
      by true e = let w = bounded s e in absurd (omega arith)
      by false e = refl

  -- Two counts of free entries that both suffice for the bytes that are left give the same listing.
  pub enough-by : (a b place : ℕ) (s : List ℕ) → length s ≤ a → length s ≤ b → listing_by rules a place s ≡ listing_by rules b place s
  enough-by zero zero place s h k = refl
  enough-by zero (suc b) place s h k = let n = none-empty s h in none-by rules place s 0 n ∙ sym (none-by rules place s (suc b) n)
  enough-by (suc a) zero place s h k = let n = none-empty s k in none-by rules place s (suc a) n ∙ sym (none-by rules place s 0 n)
  enough-by (suc a) (suc b) place s h k =
      by (whole_by rules s) refl (λ e. let w = bounded s e in enough-by a b _ _ (simp length-drop (omega arith)) (simp length-drop (omega arith)))
    where
      by : (w : Bool) → whole_by rules s ≡ w → (whole_by rules s ≡ true → behind place s (listing_by rules a) ≡ behind place s (listing_by rules b))
          → listing_by rules (suc a) place s ≡ listing_by rules (suc b) place s
      by true e more = lists-by rules place s a e ∙ ap (prepend (entry_of place s ∷ [])) (more e) ∙ sym (lists-by rules place s b e)
      by false e more = none-by rules place s (suc a) e ∙ sym (none-by rules place s (suc b) e)

  -- The walk goes on past a whole record, and stops where there is none.
  pub goes_by : (place : ℕ) (s : List ℕ) → whole_by rules s ≡ true → walk_by rules place s ≡ prepend (entry_of place s ∷ []) (behind place s (walk_by rules))
  unfolding walk_by
  goes_by place s e =
      let w = bounded s e in
      let rest = drop (record_length s) s in
      let few : length rest ≤ length s = simp length-drop (omega arith) in
      enough-by (length s) (suc (length s)) place s (omega arith) (omega arith) ∙ lists-by rules place s (length s) e
      ∙ ap (prepend (entry_of place s ∷ [])) (enough-by (length s) (length rest) (place + record_length s) rest few (omega arith))

  pub stops-by : (place : ℕ) (s : List ℕ) → whole_by rules s ≡ false → walk_by rules place s ≡ stopped place (refusal_by rules place s)
  unfolding walk_by
  stops-by place s e = none-by rules place s (length s) e

-- ---- by read one's rules

pub lists : (free : ℕ) (s : List ℕ) (at : ℕ) → whole s at ≡ true
    → listing (suc free) s at ≡ prepend (entry_at s at ∷ []) (listing free s (past s at))
unfolding listing whole past entry_at
lists free s at e = lists-by read_rules at (drop at s) free e ∙ rw drop-drop

pub lists-none : (free : ℕ) (s : List ℕ) (at : ℕ) → whole s at ≡ false → listing free s at ≡ stopped at (refusal s at)
unfolding listing whole refusal
lists-none free s at e = none-by read_rules at (drop at s) free e

pub lists-full : (s : List ℕ) (at : ℕ) → whole s at ≡ true → listing 0 s at ≡ stopped at full
unfolding listing whole
lists-full s at e = full_by read_rules at (drop at s) e

pub read-bounded : Bounded read_rules
unfolding whole_by accepts
read-bounded s e = let a = accepted s e in (omega arith, omega arith)

pub goes_on_lem : (s : List ℕ) (at : ℕ) → whole s at ≡ true → walk_from s at ≡ prepend (entry_at s at ∷ []) (walk_from s (past s at))
unfolding walk_from whole past entry_at
goes_on_lem s at e = goes_by read_rules read-bounded at (drop at s) e ∙ rw drop-drop

pub stops : (s : List ℕ) (at : ℕ) → whole s at ≡ false → walk_from s at ≡ stopped at (refusal s at)
unfolding walk_from whole refusal
stops s at e = stops-by read_rules read-bounded at (drop at s) e
