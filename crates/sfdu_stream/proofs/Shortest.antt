-- Streams of the shortest records, with zeros behind them: no smaller number of entries would do. Assumes nothing.
use Prim.Native.Nat.{ℕ, zero, suc, ◌+◌, ◌*◌, ◌%◌, ◌<◌}
use native.Mathlib.Nat.{div-add-mod'}
use native.Mathlib.Omega.{arith}
use mathlib.Core.Bool.{Bool, true, false}
use mathlib.Core.List.{List, [], ◌++◌}
use mathlib.Core.Path.{◌≡◌, refl, sym, ap, ◌∙◌}
use borrow.Author.Tests.{eqb-true, not-false}
use lib.ListN.{length, get_or, drop, replicate, length-append, length-replicate}
use lib.Seq.{drop_at, drop-drop}
use Rattle.octets.specs.Octets.{same_at}
use Rattle.octets.proofs.Laws.{all-at}
use Rattle.sfdu.specs.declared.Kind.{Kind}
use Rattle.sfdu.specs.declared.Kind.TheVariants.{Telemetry, Rsr}
use Rattle.sfdu.specs.declared.Primary.{Primary}
use Rattle.sfdu.specs.Nesting.{kind_number, authority, authority_at, tag_size, data_value_at, secondary_length}
use Rattle.sfdu.specs.Read.{primary_words, kind_of, record_length, accepts}
use Rattle.sfdu.proofs.Accepted.{none-holds, Found, found}
use Rattle.sfdu_write.specs.Write.{record_bytes, size_of}
use Rattle.sfdu_write.proofs.Written.{length-record}
use Rattle.sfdu_write.proofs.Back.{slice, record-read}
use Rattle.sfdu_stream.specs.Walk.{whole, past, full, whole_by}
use Rattle.sfdu_stream.specs.Listing.{entry_at, listing, walk_from, shortest, list_numbers, list_entries, entry_of}
use Rattle.sfdu_stream.specs.Room.{most_records, AllRsr, LeastNumber}
use Rattle.sfdu_stream.proofs.Listings.{lists, lists-full, goes_on_lem, stops}

-- ---- the shortest record of a kind: no data

zeros : Kind → List ℕ
zeros k = replicate (secondary_length k) 0

primary : Primary
primary = record { major = 0; minor = 0; mission = 0; format = 0 }

unfoldable short : Kind → List ℕ
short k = record_bytes k primary (zeros k) []

abbrev blank : (m : ℕ) → List ℕ
blank m = replicate m 0

-- n of them, back to back, and m zeros.
unfoldable copies : Kind → (n m : ℕ) → List ℕ
copies k zero m = blank m
copies k (suc n) m = short k ++ copies k n m

zeros-length : (k : Kind) → length (zeros k) ≡ secondary_length k
unfolding zeros
zeros-length Telemetry = refl
zeros-length Rsr = refl

short-length : (k : Kind) → length (short k) ≡ data_value_at k
unfolding short
short-length k = omega (arith, length-record k primary (zeros k) [] (zeros-length k))

short-found : (k : Kind) (rest : List ℕ) → Found (short k ++ rest) k (size_of k []) (primary_words primary)
unfolding short slice
short-found k rest = found _ k _ _ (sym (record-read k primary (zeros k) [] rest (zeros-length k) (omega arith)))

copies_length : (k : Kind) (n m : ℕ) → length (copies k n m) ≡ n * data_value_at k + m
unfolding copies
copies_length k zero m = omega (arith, length-replicate {A = ℕ} m 0)
copies_length k (suc n) m = rw length-append (omega (arith, short-length k, copies_length k n m))

-- ---- zeros are no record: they do not begin as one

first-zero : (m : ℕ) → get_or (blank m) 0 0 ≡ 0
first-zero zero = refl
first-zero (suc m) = refl

no-authority : (m : ℕ) → same_at (blank m) authority_at authority 0 tag_size ≡ true → ◌≡◌ {A = ℕ} 0 78
unfolding same_at
no-authority m e = sym (first-zero m) ∙ eqb-true (get_or (blank m) 0 0) 78 (all-at tag_size 0 _ e (omega arith))

zeros-refused : (m : ℕ) → accepts (blank m) ≡ false
zeros-refused m = by (accepts (blank m)) refl
  where
    by : (b : Bool) → accepts (blank m) ≡ b → b ≡ false
    by true e = absurd (omega (arith, no-authority m (not-false _ (none-holds (blank m) e).1.0)))
    by false e = refl

-- ---- a place where copies stand

record First (k : Kind) (n m : ℕ) (s : List ℕ) (at : ℕ) : Type 0 where
  is_whole : whole s at ≡ true
  kind : kind_of (drop at s) ≡ k
  next : drop (past s at) s ≡ copies k n m

first-copy : (k : Kind) (n m : ℕ) (s : List ℕ) (at : ℕ) → drop at s ≡ copies k (suc n) m → First k n m s at
unfolding whole whole_by accepts past copies
first-copy k n m s at e =
    let f = short-found k (copies k n m) in
    let long : record_length (drop at s) ≡ data_value_at k = rw e (omega (arith, f.size)) in
    record {
      is_whole = rw e f.accepted;
      kind = rw e (sym f.kind);
      next = rw long (sym (drop-drop (data_value_at k) at s) ∙ rw e (drop_at (short k) (copies k n m) (data_value_at k) (short-length k)));
    }

no_copy : (k : Kind) (m : ℕ) (s : List ℕ) (at : ℕ) → drop at s ≡ copies k 0 m → whole s at ≡ false
unfolding whole whole_by accepts copies
no_copy k m s at e = rw e (zeros-refused m)

-- The records and the zeros behind them.
module _ (k : Kind) (m : ℕ) where
  copies-walked : (n : ℕ) (s : List ℕ) (at : ℕ) → drop at s ≡ copies k n m → length (walk_from s at).entries ≡ n
  copies-walked zero s at e = rw (stops s at (no_copy k m s at e))
  copies-walked (suc n) s at e =
      let f = first-copy k n m s at e in
      rw (goes_on_lem s at f.is_whole) (ap suc (copies-walked n s (past s at) f.next))

  copies-rsr : k ≡ Rsr → (n : ℕ) (s : List ℕ) (at : ℕ) → drop at s ≡ copies k n m → AllRsr (walk_from s at).entries
  unfolding entry_at entry_of
  copies-rsr r zero s at e = rw (stops s at (no_copy k m s at e)) tt
  copies-rsr r (suc n) s at e =
      let f = first-copy k n m s at e in
      rw (goes_on_lem s at f.is_whole) (ap kind_number (f.kind ∙ r), copies-rsr r n s (past s at) f.next)

  -- A list of fewer entries is full.
  copies-full : (free n : ℕ) (s : List ℕ) (at : ℕ) → drop at s ≡ copies k n m → free < n → (listing free s at).why ≡ full
  copies-full free zero s at e h = absurd (omega (arith, h))
  copies-full zero (suc n) s at e h = rw (lists-full s at (first-copy k n m s at e).is_whole)
  copies-full (suc free) (suc n) s at e h =
      let f = first-copy k n m s at e in
      rw (lists free s at f.is_whole) (copies-full free n s (past s at) f.next (omega (arith, h)))

pub least-number : LeastNumber
unfolding list_numbers list_entries
least-number k bytes = record {
  stream = copies k n m;
  long = copies_length k n m ∙ div-add-mod' bytes (data_value_at k);
  holds = copies-walked k m n (copies k n m) 0 refl;
  alone = λ r. copies-rsr k m r n (copies k n m) 0 refl;
  numbers_full = λ old h. ap first_word (copies-full k m (shortest old) n (copies k n m) 0 refl h);
  table_full = λ old h. ap first_word (copies-full k m (length old) n (copies k n m) 0 refl h);
}
  where
    -- as many as fit, and what is left over
    n : ℕ
    n = most_records k bytes

    m : ℕ
    m = bytes % data_value_at k

    first_word : List ℕ → ℕ
    first_word why = get_or why 0 0
