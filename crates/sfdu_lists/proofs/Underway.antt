-- A list under way: what holds of the stream and of the entries each time a loop over it comes round. It says nothing of where
-- the entries are stored, so it serves both layouts. Assumes nothing.
use Prim.Native.Nat.{ℕ, zero, suc, ◌+◌, ◌-◌, ◌≤◌, ◌<◌}
use native.Mathlib.Omega.{arith}
use mathlib.Core.Bool.{Bool, true, false, cond, ◌&&◌}
use mathlib.Core.List.{List, [], ◌∷◌, ◌++◌, append_assoc, append-nil}
use mathlib.Core.Path.{◌≡◌, refl, sym, ap, ◌∙◌}
use lib.Dec.{ltb}
use lib.ListN.{length, take, drop, length-append}
use borrow.Author.Tests.{le-ltb, lt-ltb}
use Rattle.sfdu.specs.declared.Kind.{Kind}
use Rattle.sfdu.specs.Nesting.{kind_number}
use Rattle.sfdu_headers.specs.Fields.{record_number}
use Rattle.sfdu_stream.specs.declared.Entry.{Entry}
use Rattle.sfdu_lists.specs.declared.Turn.{Turn}
use Rattle.sfdu_stream.specs.declared.Walked.{Walked}
use Rattle.sfdu_stream.specs.Walk.{words_of, whole, full}
use Rattle.sfdu_stream.specs.inner.Refusal.{refusal}
use Rattle.sfdu_stream.specs.Listing.{Listing, entry_at, stopped, prepend, listing, answer, fills, list_entries, entry_of}
use Rattle.sfdu_stream.specs.inner.Record.{RecordAt}
use Rattle.sfdu_lists.specs.inner.Turn.{Lists, Stops}
use Rattle.sfdu_stream.proofs.Places.{from-there, StepNone}
use Rattle.sfdu_stream.proofs.Listings.{lists, lists-none, lists-full}

-- ---- what a turn is, from what is known at the place

pub entry-is : (s : List ℕ) (at : ℕ) (k : Kind) (n : ℕ) → RecordAt s at k n → (kind number : ℕ) → kind ≡ kind_number k
    → number ≡ record_number k (take (length s - at) (drop at s)) → record { place = at; length = n; kind = kind; number = number } ≡ entry_at s at
unfolding entry_at entry_of
entry-is s at k n r kind number e q =
    let f = from-there s at in
    rw (e, q, f, r.kind, r.size)

module _ (s : List ℕ) (at count size : ℕ) where
  pub turn-full : (w : Walked) → whole s at ≡ true → size ≤ count → words_of w ≡ count ∷ at ∷ full → Stops s at count size w
  turn-full w is_whole full words = record { none = rw (is_whole, le-ltb count size full); answer = rw is_whole words }

  pub turn-none : (w : Walked) (place : ℕ) (why : List ℕ) → StepNone s at place why → words_of w ≡ count ∷ at ∷ why → Stops s at count size w
  turn-none w place why n words = record { none = rw n.none; answer = rw (n.none, n.number) words }

-- ---- the list

-- `es` are listed, `free` entries of n are free, and what is left to list goes on from the place.
pub record Underway (s : List ℕ) (n free at : ℕ) (es : List Entry) : Type 0 where
  pub room : length es + free ≡ n
  pub rest : listing n s 0 ≡ prepend es (listing free s at)

pub begins : (s : List ℕ) (n : ℕ) → Underway s n n 0 []
begins s n = record { room = omega arith; rest = refl }

-- After a turn that lists a record, one entry fewer is free.
pub record Next (s : List ℕ) (n free : ℕ) (es : List Entry) (t : Turn) : Type 0 where
  pub left : ℕ
  pub fewer : left < free
  pub within : length es < n
  pub then : Underway s n left t.next (es ++ (t.entry ∷ []))

-- Where there is none, the list is done.
pub record Finished (s : List ℕ) (n : ℕ) (es : List Entry) (w : Walked) : Type 0 where
  pub answers : words_of w ≡ answer (listing n s 0)
  pub entries : (listing n s 0).entries ≡ es

module _ (s : List ℕ) (n at : ℕ) (es : List Entry) where
  pub goes : (t : Turn) → Lists s at (length es) n t → (free : ℕ) → Underway s n free at es → Next s n free es t
  goes t turn zero u = absurd (omega (arith, turn.free, u.room))
  goes t turn (suc free) u = record {
    left = free;
    fewer = omega arith;
    within = turn.free;
    then = record {
      room = simp length-append (omega (arith, u.room));
      rest = u.rest ∙ rw (lists free s at turn.is_whole, turn.entry, turn.next, append_assoc);
    };
  }

  stops : (w : Walked) → Stops s at (length es) n w → (free : ℕ) → Underway s n free at es
      → listing free s at ≡ stopped at (cond (whole s at) full (refusal s at))
  stops w end zero u = by (whole s at) refl
    where
      by : (b : Bool) → whole s at ≡ b → listing 0 s at ≡ stopped at (cond (whole s at) full (refusal s at))
      by true e = lists-full s at e ∙ rw e
      by false e = lists-none 0 s at e ∙ rw e
  stops w end (suc free) u =
      let b : ltb (length es) n ≡ true = lt-ltb (length es) n (omega (arith, u.room)) in
      by (whole s at) refl (rw b at end.none)
    where
      by : (b : Bool) → whole s at ≡ b → whole s at && true ≡ false → listing (suc free) s at ≡ stopped at (cond (whole s at) full (refusal s at))
      by true e z = let q = rw e at z in cc
      by false e z = lists-none (suc free) s at e ∙ rw e

  pub finished : (w : Walked) → Stops s at (length es) n w → (free : ℕ) → Underway s n free at es → Finished s n es w
  finished w end free u =
      let all-of-it : listing n s 0 ≡ record { entries = es; stop = at; why = cond (whole s at) full (refusal s at) } =
      u.rest ∙ rw (stops w end free u, append-nil) in
      record { answers = end.answer ∙ sym (ap answer all-of-it); entries = ap (λ (x : Listing). x.entries) all-of-it }

-- What a table holds then, and the answer.
pub filled_is : (s : List ℕ) (old : List Entry) (at : ℕ) (es : List Entry) (w : Walked) → Stops s at (length es) (length old) w
    → (free : ℕ) → Underway s (length old) free at es
    → ◌≡◌ {A = List ℕ × List Entry} (words_of w, fills es old) (list_entries s old)
unfolding list_entries
filled_is s old at es w end free u =
    let done = finished s (length old) at es w end free u in
    let table : fills es old ≡ fills (listing (length old) s 0).entries old = ap (λ (x : List Entry). fills x old) (sym done.entries) in
    λ j. (done.answers j, table j)
