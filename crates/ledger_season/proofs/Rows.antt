-- The counts of a row, and of a sheet row by row. Assumes nothing.
use Prim.Native.Nat.{ℕ, ◌+◌, ◌*◌, ◌≤◌, ◌<◌}
use native.Mathlib.Numerals.{add-one}
use native.Mathlib.Omega.{arith}
use mathlib.Core.Bool.{Bool, true, false, false≢true}
use mathlib.Core.List.{List, [], ◌∷◌}
use mathlib.Core.Option.{Option, none, some}
use mathlib.Core.Path.{◌≡◌, refl, sym, ap, ◌∙◌}
use lib.ListN.{drop}
use lib.Seq.{drop-cons, drop-length}
use Rattle.std.specs.Prelude as Std
use Rattle.std.specs.Option.{option_or}
use Rattle.ledger_model.specs.Positions.{row_length, Positions, position_number, size, missing, least}
use Rattle.ledger_model.specs.Book.{Place, free, row}
use Rattle.ledger_model.specs.Book as Book
use Rattle.ledger_model.specs.Counts.{lowest_number, first_gap_from}
use Rattle.ledger_model.specs.Tally.{ticked}
use Rattle.ledger_sheet.specs.Sheet.{row_count, row_at, is_used, key_at, first_number_at}
use Rattle.ledger_layout.specs.Ticks.{ticks_in}
use Rattle.ledger_counts.specs.inner.Counts.{report_words}
use Rattle.ledger_counts.proofs.Reports.{row_count_lem, end-within}
use Rattle.ledger_layout.specs.Layout.{place_in, book_of}
use Rattle.octets.proofs.Lists.{length-table, get_or-table}
use Rattle.ledger_season.specs.Report.{missed}
use Rattle.ledger_season.specs.inner.Gathered.{or_else, Counts, Adds}
use Rattle.ledger_sheet.specs.declared.Gap.{Gap}
use Rattle.ledger_season.specs.declared.Counted.{Counted}

-- The gap found before; if there is none, this one.
pub first_in : (gap : Std.Option Gap) (found : Gap) (further : List ℕ)
    → or_else (option_or gap (Std.Some found)) further ≡ or_else gap (found.number ∷ found.row ∷ [])
first_in Std.None found further = refl
first_in (Std.Some gap) found further = refl

-- ---- a row

module _ (s : List ℕ) (r : ℕ) where
  abbrev ticks : Positions
  ticks = ticks_in s (row_at r)

  abbrev lowest_missing : Option ℕ
  lowest_missing = least (missing ticks)

  pub place-used : is_used s r ≡ true → place_in s r ≡ row (key_at s (row_at r)) (first_number_at s (row_at r)) ticks
  unfolding place_in
  place-used u = rw u

  pub place-free : is_used s r ≡ false → place_in s r ≡ free
  unfolding place_in
  place-free u = rw u

  -- no more positions are counted than a row has
  few : size ticks + size (missing ticks) ≤ row_length
  few = omega (arith, row_count_lem s (row_at r), end-within s (row_at r))

  -- What a report says: of a whole row, and of one with gaps.
  pub record Whole (ticked : ℕ) : Type 0 where
    pub ticked-is : ticked ≡ size ticks
    pub missing-is : size (missing ticks) ≡ 0
    pub none_is : lowest_missing ≡ none

  pub record Gaps (ticked missed lowest : ℕ) : Type 0 where
    pub ticked-is : ticked ≡ size ticks
    pub missing-is : missed ≡ size (missing ticks)
    pub at : ℕ
    pub some_is : lowest_missing ≡ some at
    pub lowest-is : lowest ≡ position_number (key_at s (row_at r)) (first_number_at s (row_at r)) at

  pub whole_says : (t : ℕ) → 0 ∷ t ∷ 0 ∷ [] ≡ report_words s (row_at r) → Whole t
  unfolding report_words
  whole_says t = by lowest_missing refl
    where
      by : (o : Option ℕ) → lowest_missing ≡ o
          → 0 ∷ t ∷ 0 ∷ [] ≡ 0 ∷ size ticks ∷ size (missing ticks) ∷ lowest_number (key_at s (row_at r)) (first_number_at s (row_at r)) lowest_missing
          → Whole t
      by none e h = let k : 0 ∷ t ∷ 0 ∷ [] ≡ 0 ∷ size ticks ∷ size (missing ticks) ∷ [] = rw e at h in
          record { ticked-is = cc; missing-is = cc; none_is = e }
      by (some i) e h = let k : 0 ∷ t ∷ 0 ∷ [] ≡ 0 ∷ size ticks ∷ size (missing ticks) ∷ lowest_number
          (key_at s (row_at r)) (first_number_at s (row_at r)) (some i) = rw e at h in
          absurd (false≢true cc)

  pub gaps-say : (t m l : ℕ) → 0 ∷ t ∷ m ∷ l ∷ [] ≡ report_words s (row_at r) → Gaps t m l
  unfolding report_words
  gaps-say t m l = by lowest_missing refl
    where
      by : (o : Option ℕ) → lowest_missing ≡ o
          → 0 ∷ t ∷ m ∷ l ∷ [] ≡ 0 ∷ size ticks ∷ size (missing ticks) ∷ lowest_number (key_at s (row_at r)) (first_number_at s (row_at r)) lowest_missing
          → Gaps t m l
      by none e h = let k : 0 ∷ t ∷ m ∷ l ∷ [] ≡ 0 ∷ size ticks ∷ size (missing ticks) ∷ [] = rw e at h in
          absurd (false≢true cc)
      by (some i) e h = let k : 0 ∷ t ∷ m ∷ l ∷ [] ≡ 0 ∷ size ticks ∷ size (missing ticks) ∷ lowest_number
          (key_at s (row_at r)) (first_number_at s (row_at r)) (some i) = rw e at h in
          record { ticked-is = cc; missing-is = cc; at = i; some_is = e; lowest-is = cc }

  -- a free row adds nothing
  pub free-adds : (sum : Counted) → is_used s r ≡ false → Adds (place_in s r) r sum sum
  unfolding size missing first_gap_from
  free-adds sum u =
      rw (place-free u)
      (record { ticked_more = omega arith; missing_more = omega arith; gap_more = λ further. ap (λ k. or_else sum.gap (first_gap_from k further)) (add-one r) })

  -- a whole row its ticks,
  pub whole-adds : (sum : Counted) (t : ℕ) → is_used s r ≡ true → Whole t
      → Adds (place_in s r) r sum (record { ticked = sum.ticked + t; missing = sum.missing; gap = sum.gap })
  unfolding first_gap_from
  whole-adds sum t u w =
      rw (place-used u)
      (record {
        ticked_more = ap (λ n. sum.ticked + n) w.ticked-is;
        missing_more = omega (arith, w.missing-is);
        gap_more = λ further. rw w.none_is (ap (λ k. or_else sum.gap (first_gap_from k further)) (add-one r));
      })

  -- and one with gaps these too.
  pub gaps-add : (sum : Counted) (gap : Std.Option Gap) (t m l : ℕ) → is_used s r ≡ true → Gaps t m l
      → ((further : List ℕ) → or_else gap further ≡ or_else sum.gap (l ∷ r ∷ []))
      → Adds (place_in s r) r sum (record { ticked = sum.ticked + t; missing = sum.missing + m; gap = gap })
  unfolding first_gap_from
  gaps-add sum gap t m l u w g =
      rw (place-used u)
      (record {
        ticked_more = ap (λ n. sum.ticked + n) w.ticked-is;
        missing_more = ap (λ n. sum.missing + n) w.missing-is;
        gap_more = λ further. g _ ∙ rw (w.some_is, w.lowest-is);
      })

  pub ticks-few : (t : ℕ) (rest : List ℕ) → 0 ∷ t ∷ rest ≡ report_words s (row_at r) → t ≤ row_length
  unfolding report_words
  ticks-few t rest h = let e : t ≡ size ticks = cc in omega (arith, e, few)

  pub gaps-few : (t m l : ℕ) → Gaps t m l → m ≤ row_length
  gaps-few t m l w = omega (arith, w.missing-is, few)

  place-few : (size (Book.ticks_of (place_in s r)) ≤ row_length) × (size (missing (Book.ticks_of (place_in s r))) ≤ row_length)
  unfolding size missing
  place-few = by (is_used s r) refl
    where
      by : (b : Bool) → is_used s r ≡ b → (size (Book.ticks_of (place_in s r)) ≤ row_length) × (size (missing (Book.ticks_of (place_in s r))) ≤ row_length)
      by true u = rw (place-used u) (omega (arith, few), omega (arith, few))
      by false u = rw (place-free u) (omega arith, omega arith)

-- ---- a sheet

abbrev pub places : List ℕ → List Place
places s = (book_of s).places

-- The first r rows are counted.
pub record CountedTo (s : List ℕ) (r : ℕ) (sum : Counted) : Type 0 where
  pub ticked-few : sum.ticked ≤ row_length * r
  pub missing-few : sum.missing ≤ row_length * r
  pub ticked-left : sum.ticked + ticked (drop r (places s)) ≡ ticked (places s)
  pub missing-left : sum.missing + missed (drop r (places s)) ≡ missed (places s)
  pub gap-left : or_else sum.gap (first_gap_from r (drop r (places s))) ≡ first_gap_from 0 (places s)

pub counted_none : (s : List ℕ) → CountedTo s 0 (record { ticked = 0; missing = 0; gap = Std.None })
counted_none s = record { ticked-few = omega arith; missing-few = omega arith; ticked-left = omega arith; missing-left = omega arith; gap-left = refl }

pub next_place : (s : List ℕ) (r : ℕ) → r < row_count → drop r (places s) ≡ place_in s r ∷ drop (r + 1) (places s)
unfolding book_of
next_place s r l =
    drop-cons _ r free (rw (length-table row_count (place_in s)) l) ∙ rw (get_or-table row_count (place_in s) r free l, add-one)

pub no_place : (s : List ℕ) → drop row_count (places s) ≡ []
unfolding book_of
no_place s = ap (λ n. drop n (places s)) (sym (length-table row_count (place_in s))) ∙ drop-length (places s)

pub counted-more : (s : List ℕ) (r : ℕ) (sum after : Counted) → r < row_count → CountedTo s r sum → Adds (place_in s r) r sum after → CountedTo s (r + 1) after
unfolding ticked missed
counted-more s r sum after l h a =
    let p = next_place s r l in
    let t : sum.ticked + (size (Book.ticks_of (place_in s r)) + ticked (drop (r + 1) (places s))) ≡ ticked (places s) = rw p at h.ticked-left in
    let m : sum.missing + (size (missing (Book.ticks_of (place_in s r))) + missed (drop (r + 1) (places s))) ≡ missed (places s) = rw p at h.missing-left in
    record {
      ticked-few = omega (arith, h.ticked-few, a.ticked_more, (place-few s r).0);
      missing-few = omega (arith, h.missing-few, a.missing_more, (place-few s r).1);
      ticked-left = omega (arith, t, a.ticked_more);
      missing-left = omega (arith, m, a.missing_more);
      gap-left = a.gap_more (drop (r + 1) (places s)) ∙ rw (← p) h.gap-left;
    }

pub counted-all : (s : List ℕ) (sum : Counted) → CountedTo s row_count sum → Counts (places s) sum
unfolding ticked missed first_gap_from
counted-all s sum h =
    let end = no_place s in
    let t : sum.ticked + 0 ≡ ticked (places s) = rw end at h.ticked-left in
    let m : sum.missing + 0 ≡ missed (places s) = rw end at h.missing-left in
    record {
      ticked-is = omega (arith, t);
      missing-is = omega (arith, m);
      gap_is = rw end at h.gap-left;
      ticked-few = h.ticked-few;
      missing-few = h.missing-few;
    }
