-- What a search of a row's positions says of the row report, and a search of the rows of the first gap. Assumes nothing.
use Prim.Native.Nat.{ℕ, zero, suc, ◌+◌, ◌-◌, ◌≤◌, ◌<◌}
use native.Mathlib.Nat.{add-zero, add-suc, suc-add, zero-add}
use native.Mathlib.Numerals.{add-one}
use native.Mathlib.Omega.{arith}
use mathlib.Core.Bool.{Bool, true, false, cond, not}
use mathlib.Core.List.{List, [], ◌∷◌}
use mathlib.Core.Option.{Option, none, some}
use mathlib.Core.Path.{◌≡◌, refl, sym, ap, ◌∙◌}
use borrow.Author.Tests.{not-true, not-false}
use Rattle.ledger_model.specs.Positions.{row_length, size, missing, least}
use Rattle.ledger_model.specs.Book.{Place, free, row}
use Rattle.ledger_model.specs.Counts.{first_gap_from}
use Rattle.ledger_model.proofs.Counts.{least-none}
use Rattle.octets.specs.Lists.{table}
use Rattle.ledger_sheet.specs.Sheet.{row_count, row_at, is_used, key_at, first_number_at}
use Rattle.ledger_layout.specs.Layout.{place_in, book_of}
use Rattle.ledger_layout.specs.Ticks.{ticked_at, ticks_in}
use Rattle.ledger_layout.specs.inner.Scans.{lowest}
use Rattle.ledger_counts.specs.inner.Counts.{past_highest, number_at_position, report_words}
use Rattle.ledger_layout.proofs.Scans.{Each, lowest-holds, lowest-fails}
use Rattle.ledger_counts.proofs.Highest.{top_of}
use Rattle.ledger_counts.proofs.Missing.{missing-count, missing-lowest, missing-none}

module _ (s : List ℕ) (a : ℕ) where
  -- one past the highest ticked position, and the lowest unticked one below it
  abbrev end : ℕ
  end = past_highest row_length (ticked_at s a)

  abbrev unticked : ℕ → Bool
  unticked i = not (ticked_at s a i)

  pub end-within : end ≤ row_length
  end-within = (top_of row_length (ticked_at s a)).within

  -- ticked and missing positions are those below the end
  pub row_count_lem : size (ticks_in s a) + size (missing (ticks_in s a)) ≡ end
  unfolding ticks_in
  row_count_lem = missing-count row_length end (ticked_at s a) (top_of row_length (ticked_at s a))

  pub row-gap : (i : ℕ) → i < end → Each true (ticked_at s a) i → ticked_at s a i ≡ false → least (missing (ticks_in s a)) ≡ some i
  unfolding ticks_in
  row-gap i l h e = missing-lowest row_length end i (ticked_at s a) (top_of row_length (ticked_at s a)) l h e

  pub row-whole : Each true (ticked_at s a) end → least (missing (ticks_in s a)) ≡ none
  unfolding ticks_in
  row-whole h = missing-none row_length end (ticked_at s a) (top_of row_length (ticked_at s a)) h

  -- where none is missing they are as many as there are positions below the end
  pub report-whole : end ≤ lowest end unticked → 0 ∷ end ∷ 0 ∷ [] ≡ report_words s a
  unfolding report_words
  report-whole l =
      let none = row-whole (λ j q. not-false _ (lowest-fails end unticked j (omega arith))) in
      let missed : size (missing (ticks_in s a)) ≡ 0 = least-none (missing (ticks_in s a)) none in
      let ticked : size (ticks_in s a) ≡ end = omega (arith, row_count_lem) in
      rw (none, missed, ticked)

  pub report-none : end ≡ 0 → 0 ∷ 0 ∷ 0 ∷ [] ≡ report_words s a
  report-none e = rw e at (report-whole (omega arith))

  pub report-gaps : lowest end unticked < end
      → 0 ∷ size (ticks_in s a) ∷ (end - size (ticks_in s a)) ∷ number_at_position s a (lowest end unticked) ∷ [] ≡ report_words s a
  unfolding report_words
  report-gaps l =
      let at = row-gap (lowest end unticked) l (λ j q. not-false _ (lowest-fails end unticked j q)) (not-true _ (lowest-holds end unticked l)) in
      let count : end - size (ticks_in s a) ≡ size (missing (ticks_in s a)) = omega (arith, row_count_lem) in
      rw (at, count)

-- ---- the first gap

-- the first gap of n rows from row i on, of which the free ones are passed
gap_in : List ℕ → ℕ → Option ℕ → List ℕ → List ℕ
gap_in s i none rest = rest
gap_in s i (some at) rest = number_at_position s (row_at i) at ∷ i ∷ []

pub gap_from : List ℕ → ℕ → ℕ → List ℕ
unfolding gap_in
gap_from s i zero = []
gap_from s i (suc n) = cond (is_used s i) (gap_in s i (least (missing (ticks_in s (row_at i)))) (gap_from s (suc i) n)) (gap_from s (suc i) n)

gap-table : (s : List ℕ) (n i : ℕ) (p : ℕ → Place) → ((k : ℕ) → p k ≡ place_in s (i + k)) → gap_from s i n ≡ first_gap_from i (table n p)
unfolding gap_in gap_from table first_gap_from place_in
gap-table s zero i p h = refl
gap-table s (suc n) i p h =
    let later = table n (λ k. p (suc k)) in
    let rest : gap_from s (suc i) n ≡ first_gap_from (suc i) later =
    gap-table s n (suc i) (λ k. p (suc k)) (λ k. h (suc k) ∙ ap (place_in s) (add-suc i k ∙ sym (suc-add i k))) in
    let here : p 0 ≡ place_in s i = h 0 ∙ ap (place_in s) (add-zero i) in
    rw (rest, here) (by (is_used s i) (least (missing (ticks_in s (row_at i)))) refl (first_gap_from (suc i) later) later refl)
  where
    by : (t : Bool) (o : Option ℕ) → least (missing (ticks_in s (row_at i))) ≡ o → (rest : List ℕ) (later : List Place) → first_gap_from (suc i) later ≡ rest
        → cond t (gap_in s i o rest) rest
        ≡ first_gap_from i (cond t (row (key_at s (row_at i)) (first_number_at s (row_at i)) (ticks_in s (row_at i))) free ∷ later)
    by true none e rest later q = rw (e, q)
    by true (some at) e rest later q = rw e
    by false o e rest later q = rw q

pub gap-on : (s : List ℕ) → gap_from s 0 row_count ≡ first_gap_from 0 (book_of s).places
unfolding book_of
gap-on s = gap-table s row_count 0 (place_in s) (λ k. ap (place_in s) (sym (zero-add k)))

-- the end of the ticks of row i, 0 where it is free
abbrev pub row_end : List ℕ → ℕ → ℕ
row_end s i = cond (is_used s i) (past_highest row_length (ticked_at s (row_at i))) 0

pub row-end-within : (s : List ℕ) (i : ℕ) → row_end s i ≤ row_length
row-end-within s i = by (is_used s i)
  where
    by : (b : Bool) → cond b (past_highest row_length (ticked_at s (row_at i))) 0 ≤ row_length
    by true = end-within s (row_at i)
    by false = omega arith

module _ (s : List ℕ) (i u : ℕ) (l : i < u) where
  left : u - i ≡ suc (u - (i + 1))
  left = omega arith

  -- a row that is free, or ticked up to its end, is passed
  pub gap-next : Each true (ticked_at s (row_at i)) (row_end s i) → gap_from s i (u - i) ≡ gap_from s (i + 1) (u - (i + 1))
  unfolding gap_in gap_from
  gap-next = by (is_used s i) refl
    where
      by : (b : Bool) → is_used s i ≡ b → Each true (ticked_at s (row_at i)) (row_end s i) → gap_from s i (u - i) ≡ gap_from s (i + 1) (u - (i + 1))
      by true e h = rw (left, e, row-whole s (row_at i) (rw e at h)) (ap (λ (k : ℕ). gap_from s k (u - (i + 1))) (sym (add-one i)))
      by false e h = rw (left, e) (ap (λ (k : ℕ). gap_from s k (u - (i + 1))) (sym (add-one i)))

  -- an unticked position below its end is the gap
  pub gap_here : (at : ℕ) → at < row_end s i → Each true (ticked_at s (row_at i)) at → ticked_at s (row_at i) at ≡ false
      → gap_from s i (u - i) ≡ number_at_position s (row_at i) at ∷ i ∷ []
  unfolding gap_in gap_from
  gap_here at = by (is_used s i) refl
    where
      by : (b : Bool) → is_used s i ≡ b → at < row_end s i → Each true (ticked_at s (row_at i)) at → ticked_at s (row_at i) at ≡ false
          → gap_from s i (u - i) ≡ number_at_position s (row_at i) at ∷ i ∷ []
      by true e b h n = rw (left, e, row-gap s (row_at i) at (rw e at b) h n)
      by false e b h n = absurd (omega (arith, rw e at b))

pub gap-none : (s : List ℕ) (i : ℕ) → gap_from s i 0 ≡ []
unfolding gap_from
gap-none s i = refl
