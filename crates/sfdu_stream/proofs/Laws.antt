-- The laws of `specs/Laws.antt`. Assumes nothing.
use Prim.Native.Nat.{ℕ, zero, suc, ◌+◌, ◌≤◌}
use native.Mathlib.Nat.{min-eq_left, le_refl}
use native.Mathlib.Omega.{arith}
use mathlib.Core.Bool.{Bool, true, false, false≢true}
use mathlib.Core.List.{List, [], ◌∷◌, map, map-append}
use mathlib.Core.Logic.{◌⊎◌, inl, inr}
use mathlib.Core.Path.{◌≡◌, refl, sym, ap, ◌∙◌}
use lib.Dec.{leb}
use lib.ListN.{length, get_or, drop, length-map}
use borrow.Author.Tests.{leb-true, leb-false}
use Rattle.sfdu.specs.Read.{in_stream, accepts, read_one}
use Rattle.sfdu.proofs.Accepted.{Reads, accepted-one, refused-one, reads}
use Rattle.sfdu_stream.specs.declared.Entry.{Entry}
use Rattle.sfdu_stream.specs.Walk.{whole, past, full, whole_by}
use Rattle.sfdu_stream.specs.inner.Refusal.{refusal}
use Rattle.sfdu_stream.specs.Listing.{
  Listing,
  entry_at,
  stopped,
  prepend,
  listing,
  walk_by,
  walk_from,
  walked,
  answer,
  fills,
  shortest,
  fills_columns,
  list_numbers,
  list_entries,
}
use Rattle.sfdu_stream.specs.Laws.{BackToBack, StopsAtEnd, StopsRefused, Full, EveryWalk, EmptyWalk, EveryList, columns_of, SameInBothLayouts}
use Rattle.sfdu_stream.proofs.Places.{whole-record, none-at-end, refusal_is, refused-by}
use Rattle.sfdu_stream.proofs.Listings.{lists, lists-none, lists-full, stops as walk-stops}

-- ---- where no record is found

stops-there : (s : List ℕ) (at : ℕ) → at ≤ length s → whole s at ≡ false
    → StopsAtEnd s (stopped at (refusal s at)) ⊎ StopsRefused s (stopped at (refusal s at))
unfolding whole whole_by accepts
stops-there s at h e = by (leb (length s) at) refl
  where
    by : (b : Bool) → leb (length s) at ≡ b → StopsAtEnd s (stopped at (refusal s at)) ⊎ StopsRefused s (stopped at (refusal s at))
    by true t = let l = leb-true (length s) at t in inl (omega arith, refusal_is s at ∙ rw t)
    by false t = inr (leb-false (length s) at t, e, refusal_is s at ∙ rw t (refused-by (in_stream at) (drop at s) full e))

-- ---- every listing

record From (s : List ℕ) (free at : ℕ) (l : Listing) : Type 0 where
  within : l.stop ≤ length s
  fits : length l.entries ≤ free
  records : BackToBack s at l.entries l.stop
  stops : StopsAtEnd s l ⊎ (StopsRefused s l ⊎ (Full s free l × (l.why ≡ full)))

-- with a record before it
extends : (s : List ℕ) (free at : ℕ) (l : Listing) → whole s at ≡ true → From s free (past s at) l
    → From s (suc free) at (prepend (entry_at s at ∷ []) l)
extends s free at l e f = record {
  within = f.within;
  fits = omega (arith, f.fits);
  records = (e, refl, f.records);
  stops = by f.stops;
}
  where
    by : StopsAtEnd s l ⊎ (StopsRefused s l ⊎ (Full s free l × (l.why ≡ full)))
        → StopsAtEnd s l ⊎ (StopsRefused s l ⊎ (Full s (suc free) (prepend (entry_at s at ∷ []) l) × (l.why ≡ full)))
    by (inl x) = inl x
    by (inr (inl x)) = inr (inl x)
    by (inr (inr x)) = inr (inr ((x.0.0, ap suc x.0.1), x.1))

none_found : (s : List ℕ) (free at : ℕ) → at ≤ length s → whole s at ≡ false → From s free at (stopped at (refusal s at))
none_found s free at h e = record { within = h; fits = omega arith; records = refl; stops = by (stops-there s at h e) }
  where
    by : StopsAtEnd s (stopped at (refusal s at)) ⊎ StopsRefused s (stopped at (refusal s at))
        → StopsAtEnd s (stopped at (refusal s at))
        ⊎ (StopsRefused s (stopped at (refusal s at)) ⊎ (Full s free (stopped at (refusal s at)) × (refusal s at ≡ full)))
    by (inl x) = inl x
    by (inr x) = inr (inl x)

from : (free : ℕ) (s : List ℕ) (at : ℕ) → at ≤ length s → From s free at (listing free s at)
from zero s at h = by (whole s at) refl
  where
    by : (b : Bool) → whole s at ≡ b → From s 0 at (listing 0 s at)
    by true e = rw (lists-full s at e) (record { within = h; fits = omega arith; records = refl; stops = inr (inr ((e, refl), refl)) })
    by false e = rw (lists-none 0 s at e) (none_found s 0 at h e)
from (suc free) s at h = by (whole s at) refl (λ e. from free s (past s at) (whole-record s at e).within)
  where
    by : (b : Bool) → whole s at ≡ b → (whole s at ≡ true → From s free (past s at) (listing free s (past s at)))
        → From s (suc free) at (listing (suc free) s at)
    by true e rest = rw (lists free s at e) (extends s free at (listing free s (past s at)) e (rest e))
    by false e rest = rw (lists-none (suc free) s at e) (none_found s (suc free) at h e)

-- ---- lists

-- Read one gives no 16, so no refused record does.
pub refused-16 : (s : List ℕ) (at : ℕ) (why : List ℕ) → accepts s ≡ false → why ≡ in_stream at (read_one s) → get_or why 0 0 ≡ 16 → ⊥
unfolding in_stream
refused-16 s at why e h z = by (reads s)
  where
    by : Reads s → ⊥
    by (accepted-one a) = false≢true (sym e ∙ a)
    by (refused-one r) = let n : r.number ≡ 16 = rw (h, r.words) at z in omega (arith, n, r.small)

pub list_right : EveryList
unfolding whole whole_by accepts
list_right size s =
    let f = from size s 0 (omega arith) in
    record { within = f.within; fits = f.fits; records = f.records; stops = f.stops; full_told = told f.stops; told_full = full-there f.stops }
  where
    l : Listing
    l = listing size s 0

    none-full : (at : ℕ) → whole s at ≡ false → in_stream at (read_one (drop at s)) ≡ full → ⊥
    none-full at e h = refused-16 (drop at s) at full e (sym h) refl

    told : StopsAtEnd s l ⊎ (StopsRefused s l ⊎ (Full s size l × (l.why ≡ full))) → l.why ≡ full → Full s size l
    told (inl x) e = absurd (false≢true (cc (x.1, e)))
    told (inr (inl x)) e = absurd (none-full l.stop x.1 (sym x.2 ∙ e))
    told (inr (inr x)) e = x.0

    full-there : StopsAtEnd s l ⊎ (StopsRefused s l ⊎ (Full s size l × (l.why ≡ full))) → whole s l.stop ≡ true → l.why ≡ full
    full-there (inl x) e = let w = whole-record s l.stop e in absurd (omega (arith, x.0))
    full-there (inr (inl x)) e = cc
    full-there (inr (inr x)) e = x.1

-- ---- walks

-- Each record takes a byte at least.
taken : (s : List ℕ) (from : ℕ) (es : List Entry) (to : ℕ) → BackToBack s from es to → from + length es ≤ to
taken s from [] to b = omega arith
taken s from (e ∷ es) to b =
    let w = whole-record s from b.0 in
    omega (arith, taken s (past s from) es to b.2, w.further)

pub walk-right : EveryWalk
unfolding walk_from walk_by listing
walk-right s =
    let f = from (length s) s 0 (omega arith) in
    record { within = f.within; records = f.records; stops = by f.records f.stops }
  where
    l : Listing
    l = listing (length s) s 0

    by : BackToBack s 0 l.entries l.stop → StopsAtEnd s l ⊎ (StopsRefused s l ⊎ (Full s (length s) l × (l.why ≡ full)))
        → StopsAtEnd s l ⊎ StopsRefused s l
    by b (inl x) = inl x
    by b (inr (inl x)) = inr x
    by b (inr (inr x)) = let w = whole-record s l.stop x.0.0 in absurd (omega (arith, taken s 0 l.entries l.stop b, x.0.1))

pub empty-walk : EmptyWalk
unfolding walked
empty-walk = ap answer (walk-stops [] 0 (none-at-end [] 0 (omega arith)) ∙ ap (stopped 0) (refusal_is [] 0))

-- ---- both layouts

map-drop : (f : Entry → ℕ) (n : ℕ) (es : List Entry) → map f (drop n es) ≡ drop n (map f es)
map-drop f zero es = refl
map-drop f (suc n) [] = refl
map-drop f (suc n) (e ∷ es) = map-drop f n es

column : (f : Entry → ℕ) (es old : List Entry) → fills (map f es) (map f old) ≡ map f (fills es old)
column f es old = rw (length-map, map-append, map-drop)

shortest-of : (table : List Entry) → shortest (columns_of table) ≡ length table
shortest-of table = rw (length-map, length-map, length-map, length-map, min-eq_left (le_refl (length table)), min-eq_left (le_refl (length table)))

pub same-in-both : SameInBothLayouts
unfolding list_numbers list_entries
same-in-both s table =
    let e : listing (shortest (columns_of table)) s 0 ≡ listing (length table) s 0 = ap (λ (n : ℕ). listing n s 0) (shortest-of table) in
    let es = (listing (length table) s 0).entries in
    let c : fills_columns es (columns_of table) ≡ columns_of (fills es table) = λ j. record {
      places = column (λ (x : Entry). x.place) es table j;
      lengths = column (λ (x : Entry). x.length) es table j;
      kinds = column (λ (x : Entry). x.kind) es table j;
      numbers = column (λ (x : Entry). x.number) es table j;
    } in
    let d : fills_columns (listing (shortest (columns_of table)) s 0).entries (columns_of table) ≡ columns_of (fills es table) =
    ap (λ (l : Listing). fills_columns l.entries (columns_of table)) e ∙ c in
    λ j. (answer (e j), d j)
