-- How many entries a list needs: the laws of `specs/Room.antt` for every stream. Assumes nothing.
use Prim.Native.Nat.{ℕ, zero, suc, ◌+◌, ◌*◌, ◌/◌, ◌≤◌, ◌<◌}
use native.Mathlib.Nat.{le-div_iff_mul-le, lt-div-mul-add, mul-le-mul_right}
use native.Mathlib.Omega.{arith}
use mathlib.Core.Bool.{Bool, true, false, false≢true}
use mathlib.Core.List.{List, [], ◌∷◌}
use mathlib.Core.Logic.{◌⊎◌, inl, inr, ◌≢◌}
use mathlib.Core.Path.{◌≡◌, refl, sym, ap, subst, ◌∙◌}
use lib.ListN.{length, drop}
use Rattle.sfdu.specs.declared.Kind.{Kind}
use Rattle.sfdu.specs.declared.Kind.TheVariants.{Telemetry, Rsr}
use Rattle.sfdu.specs.Nesting.{data_value_at}
use Rattle.sfdu.specs.Read.{kind_of, record_length, accepts}
use Rattle.sfdu.proofs.Placed.{placed}
use Rattle.sfdu.proofs.Accepted.{accepted, same_kind}
use Rattle.sfdu_stream.specs.declared.Entry.{Entry}
use Rattle.sfdu_stream.specs.Walk.{whole, past, whole_by}
use Rattle.sfdu_stream.specs.Listing.{Listing, entry_at, prepend, listing, walk_from, walked, answer, shortest, list_numbers, list_entries, entry_of}
use Rattle.sfdu_stream.specs.Laws.{BackToBack, StopsAtEnd, StopsRefused}
use Rattle.sfdu_stream.specs.Room.{stop_number, Enough, EveryStream, AllRsr, RsrStreams}
use Rattle.sfdu_stream.proofs.Places.{whole-record}
use Rattle.sfdu_stream.proofs.Listings.{lists, lists-none, goes_on_lem, stops}
use Rattle.sfdu_stream.proofs.Laws.{walk-right, refused-16}

-- ---- records of a least length

abbrev AllLong : ℕ → List Entry → Type 0
AllLong m [] = Unit {0}
AllLong m (e ∷ es) = (m ≤ e.length) × AllLong m es

-- A whole record is not shorter than its kind's headers.
record-long : (s : List ℕ) (at : ℕ) → whole s at ≡ true → data_value_at (kind_of (drop at s)) ≤ record_length (drop at s)
unfolding whole whole_by accepts
record-long s at e =
    let a = accepted (drop at s) e in
    let p = placed (kind_of (drop at s)) in
    omega arith

least : (k : Kind) → data_value_at Telemetry ≤ data_value_at k
least Telemetry = omega arith
least Rsr = omega arith

every-long : (s : List ℕ) (from : ℕ) (es : List Entry) (to : ℕ) → BackToBack s from es to → AllLong (data_value_at Telemetry) es
unfolding entry_at entry_of
every-long s from [] to b = tt
every-long s from (e ∷ es) to b =
    let long = record-long s from b.0 in
    let size = ap (λ (x : Entry). x.length) b.1 in
    (omega (arith, long, size, least (kind_of (drop from s))), every-long s (past s from) es to b.2)

rsr-long : (s : List ℕ) (from : ℕ) (es : List Entry) (to : ℕ) → BackToBack s from es to → AllRsr es → AllLong (data_value_at Rsr) es
unfolding entry_at entry_of
rsr-long s from [] to b r = tt
rsr-long s from (e ∷ es) to b r =
    let long = record-long s from b.0 in
    let kind : kind_of (drop from s) ≡ Rsr = same_kind _ Rsr (sym (ap (λ (x : Entry). x.kind) b.1) ∙ r.0) in
    let size = ap (λ (x : Entry). x.length) b.1 in
    (rw size (rw kind at long), rsr-long s (past s from) es to b.2 r.1)

-- ---- so many fit

held : (m : ℕ) (s : List ℕ) (from : ℕ) (es : List Entry) (to : ℕ) → AllLong m es → BackToBack s from es to → from + length es * m ≤ to
unfolding entry_at entry_of past
held m s from [] to long b = omega (arith, b)
held m s from (e ∷ es) to long b =
    let size = ap (λ (x : Entry). x.length) b.1 in
    omega (arith, held m s (past s from) es to long.1 b.2, long.0, size)

no_more : (m : ℕ) (s : List ℕ) → 0 < m → AllLong m (walk_from s 0).entries → length (walk_from s 0).entries ≤ length s / m
no_more m s h long =
    let w = walk-right s in
    (le-div_iff_mul-le h).1 (omega (arith, held m s 0 (walk_from s 0).entries (walk_from s 0).stop long w.records, w.within))

-- ---- a list of so many entries is the walk

stands : (s : List ℕ) (at m : ℕ) → m ≤ (entry_at s at).length → at + m ≤ past s at
unfolding entry_at entry_of past
stands s at m h = omega (arith, h)

-- What is longer than q records of m bytes by less than one is shorter than any more records.
past-them : (bytes m q free : ℕ) → bytes < q * m + m → q ≤ free → bytes < 0 + suc free * m
past-them bytes m q free h l = let wide = mul-le-mul_right m l in omega (arith, h, wide)

-- Past a whole record m bytes or more are behind, and the walk goes on.
behind : (m : ℕ) (s : List ℕ) (at : ℕ) → whole s at ≡ true → AllLong m (walk_from s at).entries
    → (at + m ≤ past s at) × AllLong m (walk_from s (past s at)).entries
behind m s at e long = let l = subst (λ (x : Listing). AllLong m x.entries) (goes_on_lem s at e) long in (stands s at m l.0, l.1)

walk-on : (m free : ℕ) (s : List ℕ) (at : ℕ) → AllLong m (walk_from s at).entries → length s < at + suc free * m → listing free s at ≡ walk_from s at
walk-on m zero s at long h = by (whole s at) refl
  where
    by : (b : Bool) → whole s at ≡ b → listing 0 s at ≡ walk_from s at
    by false e = lists-none 0 s at e ∙ sym (stops s at e)
    by true e = absurd (omega (arith, (behind m s at e long).0, (whole-record s at e).within, h))
walk-on m (suc free) s at long h = by (whole s at) refl (walk-on m free s (past s at))
  where
    by : (b : Bool) → whole s at ≡ b
        → (AllLong m (walk_from s (past s at)).entries → length s < past s at + suc free * m → listing free s (past s at) ≡ walk_from s (past s at))
        → listing (suc free) s at ≡ walk_from s at
    by false e more = lists-none (suc free) s at e ∙ sym (stops s at e)
    by true e more =
        let far = behind m s at e long in
        lists free s at e ∙ ap (prepend (entry_at s at ∷ [])) (more far.1 (omega (arith, far.0, h))) ∙ sym (goes_on_lem s at e)

-- ---- the laws

-- A walk gives no 16.
walk-never-16 : (s : List ℕ) → stop_number (walked s) ≢ 16
unfolding walked whole whole_by accepts
walk-never-16 s e = by (walk-right s).stops
  where
    l : Listing
    l = walk_from s 0

    by : StopsAtEnd s l ⊎ StopsRefused s l → ⊥
    by (inl x) = false≢true (cc (x.1, e))
    by (inr x) = refused-16 (drop l.stop s) l.stop l.why x.1 x.2 e

enough : (m : ℕ) (s : List ℕ) → 0 < m → AllLong m (walk_from s 0).entries → Enough s (length s / m)
unfolding list_numbers list_entries walked
enough m s h long = record {
  no_more = no_more m s h long;
  numbers_walked = λ old l. ap answer (same (shortest old) l);
  numbers_never_16 = λ old l e. walk-never-16 s (sym (ap stop_number (ap answer (same (shortest old) l))) ∙ e);
  table_walked = λ old l. ap answer (same (length old) l);
  table_never_16 = λ old l e. walk-never-16 s (sym (ap stop_number (ap answer (same (length old) l))) ∙ e);
}
  where
    same : (free : ℕ) → length s / m ≤ free → listing free s 0 ≡ walk_from s 0
    same free l = walk-on m free s 0 long (past-them (length s) m (length s / m) free (lt-div-mul-add h) l)

pub every-stream : EveryStream
every-stream s =
    let w = walk-right s in
    enough (data_value_at Telemetry) s (omega arith) (every-long s 0 (walk_from s 0).entries (walk_from s 0).stop w.records)

pub rsr-streams : RsrStreams
rsr-streams s alone =
    let w = walk-right s in
    enough (data_value_at Rsr) s (omega arith) (rsr-long s 0 (walk_from s 0).entries (walk_from s 0).stop w.records alone)
