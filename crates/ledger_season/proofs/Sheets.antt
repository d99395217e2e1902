-- The sheets of a season, one after another, and their counts. Assumes no_counts.
use Prim.Native.Nat.{ℕ, zero, suc, ◌+◌, ◌-◌, ◌*◌, ◌≤◌, ◌<◌}
use native.Mathlib.Nat.{le_refl}
use native.Mathlib.Numerals.{add-one}
use native.Mathlib.Omega.{arith}
use mathlib.Core.List.{List, [], ◌∷◌, ◌++◌, append_assoc}
use mathlib.Core.Path.{◌≡◌, refl, sym, ap, ◌∙◌}
use lib.ListN.{length, get_or, take, drop, set, replicate, length-set, take-append-drop}
use lib.Seq.{drop-cons, drop-length, take-suc-set, drop-set-lt}
use Rattle.std.specs.Prelude.{Option, None}
use Rattle.octets.specs.Octets.{part}
use Rattle.octets.proofs.Laws.{length_part}
use Rattle.ledger_model.specs.Positions.{row_length}
use Rattle.ledger_model.specs.Book.{place_count, Book, fresh}
use Rattle.ledger_model.specs.Counts.{first_gap_from}
use Rattle.ledger_sheet.specs.Sheet.{sheet_size}
use Rattle.ledger_layout.specs.Layout.{book_of}
use Rattle.octets.proofs.Lists.{length-table, get_or-table}
use Rattle.ledger_season.specs.Report.{most_sheets, three, ticked_in, missing_in, each_sheet, in_all, gap_in, season_gap_from, report}
use Rattle.ledger_season.specs.Season.{sheet_at, books_to, counts_words, sheets_words, or_further, no_counts}
use Rattle.ledger_season.specs.inner.Gathered.{or_else, Counts}
use Rattle.ledger_season.specs.declared.Counted.{Counted}
use Rattle.ledger_season.specs.declared.SheetCounts.{SheetCounts}
use Rattle.ledger_season.specs.declared.SeasonGap.{SeasonGap}

-- ---- the part that the code lends

pub sheet-part : (s : List ℕ) (k : ℕ) → take (sheet_size * k + sheet_size - sheet_size * k) (drop (sheet_size * k) s) ≡ sheet_at s k
unfolding part
sheet-part s k = let e : sheet_size * k + sheet_size - sheet_size * k ≡ sheet_size = omega arith in rw e

-- ---- the books, one after another

pub length-books : (s : List ℕ) (n : ℕ) → length (books_to s n) ≡ n
unfolding books_to
length-books s n = length-table n (λ k. book_of (sheet_at s k))

pub next-book : (s : List ℕ) (n k : ℕ) → k < n → drop k (books_to s n) ≡ book_of (sheet_at s k) ∷ drop (k + 1) (books_to s n)
unfolding books_to
next-book s n k l =
    let book : ℕ → Book = λ j. book_of (sheet_at s j) in
    drop-cons _ k fresh (rw (length-table n book) l) ∙ rw (get_or-table n book k fresh l, add-one)

pub no-book : (s : List ℕ) (n : ℕ) → drop n (books_to s n) ≡ []
no-book s n = ap (λ m. drop m (books_to s n)) (sym (length-books s n)) ∙ drop-length (books_to s n)

-- ---- the words of the sheets

words_append : (xs ys : List SheetCounts) → sheets_words (xs ++ ys) ≡ sheets_words xs ++ sheets_words ys
unfolding sheets_words
words_append [] ys = refl
words_append (x ∷ xs) ys = rw (words_append xs ys) (sym (append_assoc (counts_words x) (sheets_words xs) (sheets_words ys)))

zeros : (n : ℕ) → sheets_words (replicate n no_counts) ≡ each_sheet n []
unfolding sheets_words each_sheet
zeros zero = refl
zeros (suc n) = ap (λ ws. 0 ∷ 0 ∷ 0 ∷ ws) (zeros n)

pub length-sheet : (s : List ℕ) (n k : ℕ) → k < n → sheet_size * n ≤ length s → length (sheet_at s k) ≡ sheet_size
length-sheet s n k l h = length_part s (sheet_size * k) sheet_size (omega arith)

-- ---- the sheets counted one after another

-- The first k of n sheets are counted.
pub record SeasonTo (s : List ℕ) (n : ℕ) (sheets : List SheetCounts) (ticked missing : ℕ) (gap : Option SeasonGap) (k : ℕ) : Type 0 where
  pub ticked-few : ticked ≤ row_length * place_count * k
  pub missing-few : missing ≤ row_length * place_count * k
  pub long : length sheets ≡ most_sheets
  pub zeros-left : drop k sheets ≡ replicate (most_sheets - k) no_counts
  pub words_left : sheets_words (take k sheets) ++ each_sheet (most_sheets - k) (drop k (books_to s n)) ≡ each_sheet most_sheets (books_to s n)
  pub ticked-left : ticked + in_all ticked_in (drop k (books_to s n)) ≡ in_all ticked_in (books_to s n)
  pub missing-left : missing + in_all missing_in (drop k (books_to s n)) ≡ in_all missing_in (books_to s n)
  pub gap-left : or_further gap (season_gap_from k (drop k (books_to s n))) ≡ season_gap_from 0 (books_to s n)

pub season-none : (s : List ℕ) (n : ℕ) → SeasonTo s n (replicate most_sheets no_counts) 0 0 None 0
unfolding sheets_words
season-none s n =
    record {
      ticked-few = omega arith;
      missing-few = omega arith;
      long = refl;
      zeros-left = refl;
      words_left = refl;
      ticked-left = omega arith;
      missing-left = omega arith;
      gap-left = refl;
    }

module _ (s : List ℕ) (n : ℕ) (sheets : List SheetCounts) (ticked missing : ℕ) (gap : Option SeasonGap) where
  pub season-more : (k : ℕ) → k < n → n ≤ most_sheets → SeasonTo s n sheets ticked missing gap k
      → (counted : Counted) → Counts (book_of (sheet_at s k)).places counted
      → (three-of : SheetCounts) → counts_words three-of ≡ three counted.ticked counted.missing
      → (first : Option SeasonGap) → ((further : List ℕ) → or_further first further ≡ or_further gap (gap_in k (or_else counted.gap []) further))
      → SeasonTo s n (set sheets k three-of) (ticked + counted.ticked) (missing + counted.missing) first (k + 1)
  unfolding in_all season_gap_from each_sheet sheets_words
  season-more k l m h counted c three-of w first g =
      let b = book_of (sheet_at s k) in
      let rest = drop (k + 1) (books_to s n) in
      let p = next-book s n k l in
      let left : most_sheets - k ≡ suc (most_sheets - (k + 1)) = omega arith in
      let one_less : most_sheets - k ≡ suc (most_sheets - suc k) = omega arith in
      let t : ticked + (ticked_in b + in_all ticked_in rest) ≡ in_all ticked_in (books_to s n) = rw p at h.ticked-left in
      let u : missing + (missing_in b + in_all missing_in rest) ≡ in_all missing_in (books_to s n) = rw p at h.missing-left in
      let counts = three (ticked_in b) (missing_in b) in
      let words : sheets_words (take k sheets) ++ (counts ++ each_sheet (most_sheets - (k + 1)) rest) ≡ each_sheet most_sheets (books_to s n) =
      rw (p, left) at h.words_left in
      let inside : k < length sheets = omega (arith, h.long) in
      let taken : sheets_words (take (k + 1) (set sheets k three-of)) ≡ sheets_words (take k sheets) ++ three (ticked_in b) (missing_in b) =
      rw (add-one k, take-suc-set sheets k three-of inside, words_append (take k sheets) (three-of ∷ []), w, c.ticked-is, c.missing-is) in
      let zeros : get_or sheets k no_counts ∷ drop (suc k) sheets ≡ no_counts ∷ replicate (most_sheets - suc k) no_counts =
      sym (drop-cons sheets k no_counts inside) ∙ rw one_less at h.zeros-left in
      let gaps : or_further gap (gap_in k (first_gap_from 0 b.places) (season_gap_from (suc k) rest)) ≡ season_gap_from 0 (books_to s n) = rw p at h.gap-left in
      record {
        ticked-few = omega (arith, h.ticked-few, c.ticked-few);
        missing-few = omega (arith, h.missing-few, c.missing-few);
        long = length-set sheets k three-of ∙ h.long;
        zeros-left = rw (add-one k, drop-set-lt (suc k) sheets k three-of (le_refl _)) (ap (λ xs. drop 1 xs) zeros);
        words_left = rw (taken, append_assoc) words;
        ticked-left = omega (arith, t, c.ticked-is);
        missing-left = omega (arith, u, c.missing-is);
        gap-left =
            g _ ∙ rw c.gap_is (ap (λ i. or_further gap (gap_in k (first_gap_from 0 b.places) (season_gap_from i rest))) (add-one k) ∙ gaps);
      }

  -- all are counted
  pub season-all : SeasonTo s n sheets ticked missing gap n → (total : SheetCounts) → counts_words total ≡ three ticked missing
      → n ∷ sheets_words sheets ++ counts_words total ++ or_further gap [] ≡ report (books_to s n)
  unfolding report in_all season_gap_from
  season-all h total w =
      let end = no-book s n in
      let t : ticked + 0 ≡ in_all ticked_in (books_to s n) = rw end at h.ticked-left in
      let u : missing + 0 ≡ in_all missing_in (books_to s n) = rw end at h.missing-left in
      let in_all_lem : ticked ≡ in_all ticked_in (books_to s n) = omega arith in
      let missing-in-all : missing ≡ in_all missing_in (books_to s n) = omega arith in
      let parts : sheets_words sheets ≡ sheets_words (take n sheets) ++ sheets_words (drop n sheets) =
      ap sheets_words (sym (take-append-drop n sheets)) ∙ words_append (take n sheets) (drop n sheets) in
      let words : sheets_words sheets ≡ each_sheet most_sheets (books_to s n) =
      parts ∙ rw (h.zeros-left, zeros (most_sheets - n)) (rw end at h.words_left) in
      let gap_is : or_further gap [] ≡ season_gap_from 0 (books_to s n) = rw end at h.gap-left in
      rw (length-books s n, words, w, in_all_lem, missing-in-all, gap_is)
