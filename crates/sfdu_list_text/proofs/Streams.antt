-- The lines of a stream, from a place on. Assumes nothing.
use Prim.Native.Nat.{ℕ, ◌+◌, ◌≤◌}
use native.Mathlib.Nat.{add-zero, add_assoc}
use native.Mathlib.Omega.{arith}
use mathlib.Core.Bool.{Bool, true, false, not, ◌&&◌}
use mathlib.Core.List.{List, [], ◌∷◌, ◌++◌, append_assoc, append-nil}
use mathlib.Core.Path.{◌≡◌, refl, sym, ap, ◌∙◌}
use lib.ListN.{length, drop, length-drop}
use lib.Seq.{drop-drop, drop-append-le}
use Rattle.sfdu.specs.declared.Kind.{Kind}
use Rattle.sfdu.specs.Nesting.{kind_number}
use Rattle.sfdu.specs.Read.{record_length}
use Rattle.streaming.specs.Listing.{GoesOn}
use Rattle.sfdu_stream.specs.Listing.{entry_of}
use Rattle.sfdu_stream.proofs.Listings.{Bounded, goes_by, stops-by}
use Rattle.sfdu_list_text.specs.Text.{line, last_line}
use Rattle.sfdu_list_text.specs.Listing.{list_rules, line_of, lines_of, text_of, lines_from}
use Rattle.sfdu_list_text.specs.inner.Stops.{whole, stop_words}
use Rattle.sfdu_list_text.specs.Window.{cut_short}
use Rattle.sfdu_list_text.proofs.Judging.{whole-record, FoundRecord, FoundStop}
use Rattle.sfdu_list_text.proofs.Stable.{whole-stays, record_same, stop-stays}

-- ---- the whole stream

pub list-bounded : Bounded list_rules
unfolding whole
list-bounded s e = let r = whole-record s e in (omega arith, r.within)

pub lines-whole : (place : ℕ) (s : List ℕ) → whole s ≡ true
    → lines_from place s ≡ line_of (entry_of place s) ++ lines_from (place + record_length s) (drop (record_length s) s)
unfolding whole lines_from text_of lines_of
lines-whole place s e = ap text_of (goes_by list_rules list-bounded place s e) ∙ append_assoc (line_of (entry_of place s)) _ _

pub lines-stop : (place : ℕ) (s : List ℕ) → whole s ≡ false → lines_from place s ≡ last_line place (stop_words place s)
unfolding whole lines_from text_of lines_of stop_words
lines-stop place s e = ap text_of (stops-by list_rules list-bounded place s e)

-- ---- a window onto it: what stands at the start of s, however the stream goes on

window-whole : (place : ℕ) (s more : List ℕ) → whole s ≡ true
    → lines_from place (s ++ more) ≡ line_of (entry_of place s) ++ lines_from (place + record_length s) (drop (record_length s) s ++ more)
window-whole place s more e =
    let r = whole-record s e in
    let same = record_same s more e in
    lines-whole place (s ++ more) (whole-stays s more e)
    ∙ rw (same.1 place, same.0, drop-append-le (record_length s) s more r.within)

window-stop : (place : ℕ) (s more : List ℕ) (last : Bool) → GoesOn last more → whole s ≡ false → (cut_short s && not last) ≡ false
    → lines_from place (s ++ more) ≡ last_line place (stop_words place s)
window-stop place s more last on e c = by (cut_short s) last refl refl
  where
    by : (b l : Bool) → cut_short s ≡ b → last ≡ l → lines_from place (s ++ more) ≡ last_line place (stop_words place s)
    by b true q t = rw (on t, append-nil) (lines-stop place s e)
    by false false q t = let k = stop-stays s more e q in lines-stop place (s ++ more) k.0 ∙ ap (last_line place) (k.1 place)
    by true false q t = let z : ◌≡◌ {A = Bool} true false = sym (rw (q, t)) ∙ c in cc

-- ---- a window under way: t is the text for its first `at` bytes

pub record Underway (w : List ℕ) (place : ℕ) (last : Bool) (at : ℕ) (t : List ℕ) : Type 0 where
  pub within : at ≤ length w
  pub says : (more : List ℕ) → GoesOn last more → lines_from place (w ++ more) ≡ t ++ lines_from (place + at) (drop at w ++ more)

module _ (w : List ℕ) (place : ℕ) (last : Bool) where
  pub begins : Underway w place last 0 []
  begins = record { within = omega arith; says = λ more on. rw (add-zero place) }

  module _ (at : ℕ) (t : List ℕ) (u : Underway w place last at t) where
    pub goes : (k : Kind) (n m : ℕ) → FoundRecord (drop at w) k n m → Underway w place last (at + n) (t ++ line (place + at) n (kind_number k) m)
    unfolding entry_of
    goes k n m f =
        let r = whole-record (drop at w) f.is_whole in
        let l = length-drop at w in
        record {
          within = omega (arith, f.size);
          says = λ more on.
              u.says more on
              ∙ ap (λ (x : List ℕ). t ++ x) (window-whole (place + at) (drop at w) more f.is_whole)
              ∙ rw (← f.size, ← f.number, ← f.kind, drop-drop, ← append_assoc t, add_assoc place at n);
        }

    pub stops : (n m : ℕ) → FoundStop (place + at) (drop at w) last n m → (more : List ℕ) → GoesOn last more
        → lines_from place (w ++ more) ≡ (t ++ last_line (place + at) (n ∷ m ∷ [])) ++ []
    stops n m f more on =
        u.says more on ∙ rw (window-stop (place + at) (drop at w) more last on f.none f.known, f.words, append-nil)
