-- A receive under way: what holds each time its loop comes round. Assumes nothing.
use Prim.Native.Nat.{ℕ, suc, ◌+◌, ◌-◌, ◌≤◌, ◌<◌}
use native.Mathlib.Omega.{arith}
use mathlib.Core.Path.{◌≡◌, refl, sym, ap, ◌∙◌}
use mathlib.Core.Bool.{Bool, true, false, cond, true≢false}
use borrow.Author.Tests.{ltb-true, ltb-false}
use mathlib.Core.List.{List, [], ◌∷◌, ◌++◌, map}
use lib.Dec.{eqb, ltb}
use lib.ListN.{length, set, take, drop, length-append}
use Rattle.refusals.specs.Judge.{none_applies}
use Rattle.sfdu.specs.Nesting.{kind_number}
use Rattle.sfdu.specs.Read.{kind_of, read_rules}
use Rattle.sfdu_headers.specs.Fields.{record_number}
use Rattle.sfdu_stream.specs.declared.Entry.{Entry}
use Rattle.sfdu_stream.specs.Walk.{words_of, whole_by, whole}
use Rattle.sfdu_stream.specs.Listing.{entry_of, entry_at, listing, answer, fills}
use Rattle.sfdu_stream.proofs.Places.{from-there, none-at-end}
use Rattle.sfdu_lists.specs.declared.Turn.{Turn}
use Rattle.sfdu_stream.specs.declared.Walked.{Walked}
use Rattle.sfdu_lists.specs.inner.Turn.{Lists, Stops}
use Rattle.sfdu_lists.proofs.Filled.{fills-more, fills-length}
use Rattle.sfdu_lists.proofs.Underway.{Underway, begins, goes, finished}
use Rattle.ledger_model.specs.Book.{Book, closed, desk, is_desk}
use Rattle.ledger_model.specs.Step.{run}
use Rattle.ledger_layout.specs.Layout.{layout, book_of}
use Rattle.ledger_receive.specs.Visits.{visit, outcome, visits, outcomes}
use Rattle.ledger_receive.specs.Receive.{arrival_in, arrivals, ticked_in, receiving}
use Rattle.ledger_receive.specs.inner.Calls.{visiting}
use Rattle.ledger_receive.proofs.Sheets.{Holds, holds-book}
use Rattle.ledger_receive.proofs.Visits.{visits-snoc, outcomes-snoc, outcomes-count, still-closed, well-visited}

-- ---- one more outcome

pub ticked-snoc : (os : List ℕ) (o : ℕ) → ticked_in (os ++ o ∷ []) ≡ ticked_in os + cond (eqb o 0) 1 0
unfolding ticked_in
ticked-snoc [] o = by (eqb o 0)
  where
    by : (f : Bool) → cond f (suc 0) 0 ≡ 0 + cond f 1 0
    by true = refl
    by false = refl
ticked-snoc (x ∷ os) o = by (eqb x 0) (ticked-snoc os o)
  where
    more : ℕ
    more = cond (eqb o 0) 1 0

    by : (f : Bool) → ticked_in (os ++ o ∷ []) ≡ ticked_in os + cond (eqb o 0) 1 0
        → cond f (suc (ticked_in (os ++ o ∷ []))) (ticked_in (os ++ o ∷ [])) ≡ cond f (suc (ticked_in os)) (ticked_in os) + cond (eqb o 0) 1 0
    by true h = omega arith
    by false h = h

pub ticked-few : (os : List ℕ) → ticked_in os ≤ length os
unfolding ticked_in
ticked-few [] = omega arith
ticked-few (x ∷ os) = by (eqb x 0) (ticked-few os)
  where
    by : (f : Bool) → ticked_in os ≤ length os → cond f (suc (ticked_in os)) (ticked_in os) ≤ suc (length os)
    by true h = omega arith
    by false h = omega arith

map_snoc : {A B : Type 0} (f : A → B) (xs : List A) (x : A) → map f (xs ++ x ∷ []) ≡ map f xs ++ f x ∷ []
map_snoc f [] x = refl
map_snoc f (y ∷ ys) x = ap (λ l. f y ∷ l) (map_snoc f ys x)

map-count : {A B : Type 0} (f : A → B) (xs : List A) → length (map f xs) ≡ length xs
map-count f [] = refl
map-count f (x ∷ xs) = ap suc (map-count f xs)

-- ---- the loop's invariant

-- The entries `es` are listed, their records have made their visits to desk d, and the outcomes stand in the list.
pub record Round (stream old : List ℕ) (b : Book) (d at i ticked : ℕ) (s list : List ℕ) : Type 0 where
  pub es : List Entry
  pub free : ℕ
  pub under-way : Underway stream (length old) free at es
  pub count : length es ≡ i
  pub holds : Holds s (run b (visits d (arrivals stream es) b)).book
  pub is-closed : desk (run b (visits d (arrivals stream es) b)).book d ≡ closed
  pub filled : list ≡ fills (outcomes d (arrivals stream es) b) old
  pub told : ticked ≡ ticked_in (outcomes d (arrivals stream es) b)

module _ (stream old : List ℕ) (b : Book) (d : ℕ) (t : is_desk d ≡ true) where
  pub round-begins : (s : List ℕ) → Holds s b → desk b d ≡ closed → Round stream old b d 0 0 0 s old
  unfolding run visits outcomes ticked_in
  round-begins s h x =
      record {
        es = [];
        free = length old;
        under-way = begins stream (length old);
        count = refl;
        holds = h;
        is-closed = x;
        filled = refl;
        told = refl;
      }

  module _ (at i ticked : ℕ) (s list : List ℕ) (r : Round stream old b d at i ticked s list) where
    -- the outcomes so far are as many as the entries
    outcome-count : length (outcomes d (arrivals stream r.es) b) ≡ i
    outcome-count = outcomes-count d (arrivals stream r.es) b ∙ map-count _ r.es ∙ r.count

    fits : length r.es ≤ length old
    fits = omega (arith, r.under-way.room)

    pub round-length : length list ≡ length old
    round-length =
        let few : length (outcomes d (arrivals stream r.es) b) ≤ length old = omega (arith, outcome-count, r.count, fits) in
        ap (λ (l : List ℕ). length l) r.filled ∙ fills-length (outcomes d (arrivals stream r.es) b) old few

    pub round-few : ticked ≤ i
    round-few = omega (arith, r.told, ticked-few (outcomes d (arrivals stream r.es) b), outcome-count)

    -- ---- a record is listed

    module _ (u : Turn) (turn : Lists stream at i (length old) u) where
      here : Lists stream at (length r.es) (length old) u
      here = rw r.count turn

      pub turn-within : i < length old
      turn-within = turn.free

      pub turn-place : at ≤ length stream
      turn-place = by (ltb at (length stream)) refl
        where
          by : (f : Bool) → ltb at (length stream) ≡ f → at ≤ length stream
          by true q = let h = ltb-true at (length stream) q in omega arith
          by false q = absurd (true≢false (sym turn.is_whole ∙ none-at-end stream at (ltb-false at (length stream) q)))

      pub turn-whole : none_applies (read_rules (take (length stream - at) (drop at stream))) ≡ true
      unfolding whole whole_by
      turn-whole = rw (from-there stream at) turn.is_whole

      pub turn-kind : u.entry.kind ≡ kind_number (kind_of (take (length stream - at) (drop at stream)))
      unfolding entry_at entry_of
      turn-kind = rw (from-there stream at) (ap (λ (e : Entry). e.kind) turn.entry)

      pub turn-number : u.entry.number
          ≡ record_number (kind_of (take (length stream - at) (drop at stream))) (take (length stream - at) (drop at stream))
      unfolding entry_at entry_of
      turn-number = rw (from-there stream at) (ap (λ (e : Entry). e.number) turn.entry)

      turn-at-place : u.entry.place ≡ at
      unfolding entry_at entry_of
      turn-at-place = ap (λ (e : Entry). e.place) turn.entry

      pub round-goes : (o : ℕ) (after : List ℕ) → (o, after) ≡ visiting d (arrival_in (take (length stream - at) (drop at stream))) (book_of s)
          → (more : ℕ) → more ≡ ticked + cond (eqb o 0) 1 0 → Round stream old b d u.next (i + 1) more after (set list i o)
      round-goes o after e more m =
          let n = goes stream (length old) at r.es u here r.free r.under-way in
          let xs = arrivals stream r.es in
          let c = (run b (visits d xs b)).book in
          let x = arrival_in (drop at stream) in
          let os = outcomes d xs b in
          let made : (o, after) ≡ visiting d x c = e ∙ rw (from-there stream at, holds-book r.holds) refl in
          let o_is : o ≡ outcome d x c = ap (λ p. p.0) made in
          let grown : arrivals stream (r.es ++ u.entry ∷ []) ≡ xs ++ x ∷ [] =
          map_snoc (λ (y : Entry). arrival_in (drop y.place stream)) r.es u.entry
          ∙ ap (λ (k : ℕ). xs ++ arrival_in (drop k stream) ∷ []) turn-at-place in
          let book-is : (run b (visits d (arrivals stream (r.es ++ u.entry ∷ [])) b)).book ≡ (run c (visit d x c)).book =
          ap (λ ys. (run b (visits d ys b)).book) grown ∙ visits-snoc d xs x b in
          let outs-are : outcomes d (arrivals stream (r.es ++ u.entry ∷ [])) b ≡ os ++ o ∷ [] =
          ap (λ ys. outcomes d ys b) grown ∙ outcomes-snoc d xs x b ∙ ap (λ k. os ++ k ∷ []) (sym o_is) in
          let room : length os < length old = omega (arith, outcome-count, turn-within) in
          record {
            es = r.es ++ u.entry ∷ [];
            free = n.left;
            under-way = n.then;
            count = length-append r.es (u.entry ∷ []) ∙ ap (λ (k : ℕ). k + 1) r.count;
            holds = record {
              is-well = rw book-is (well-visited d t c r.holds.is-well r.is-closed x);
              is-laid = rw book-is (ap (λ p. p.1) made);
            };
            is-closed = rw book-is (still-closed d t c r.holds.is-well r.is-closed x);
            filled = rw (outs-are, r.filled, ← outcome-count) (fills-more os old o room);
            told = rw outs-are (m ∙ ap (λ (k : ℕ). k + cond (eqb o 0) 1 0) r.told ∙ sym (ticked-snoc os o));
          }

    -- ---- none is

    pub round-ends : (w : Walked) → Stops stream at i (length old) w → (0 ∷ words_of w ++ (ticked ∷ []), list, s) ≡ receiving d stream old b
    round-ends w end =
        let f = finished stream (length old) at r.es w (rw r.count end) r.free r.under-way in
        let whole-list = listing (length old) stream 0 in
        let words : 0 ∷ words_of w ++ (ticked ∷ [])
        ≡ 0 ∷ answer whole-list ++ (ticked_in (outcomes d (arrivals stream whole-list.entries) b) ∷ []) =
        ap (λ (ws : List ℕ). 0 ∷ ws ++ (ticked ∷ [])) f.answers
        ∙ ap (λ (k : ℕ). 0 ∷ answer whole-list ++ (k ∷ []))
        (r.told ∙ ap (λ (es : List Entry). ticked_in (outcomes d (arrivals stream es) b)) (sym f.entries)) in
        let lists : list ≡ fills (outcomes d (arrivals stream whole-list.entries) b) old =
        r.filled ∙ ap (λ (es : List Entry). fills (outcomes d (arrivals stream es) b) old) (sym f.entries) in
        let sheets : s ≡ layout (run b (visits d (arrivals stream whole-list.entries) b)).book =
        r.holds.is-laid ∙ ap (λ (es : List Entry). layout (run b (visits d (arrivals stream es) b)).book) (sym f.entries) in
        λ j. (words j, lists j, sheets j)
