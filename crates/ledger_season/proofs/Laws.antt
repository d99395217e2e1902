-- The laws of every season's answer. Assumes nothing.
use Prim.Native.Nat.{ℕ, zero, suc, ◌+◌, ◌≤◌}
use native.Mathlib.Nat.{le_of_suc-le-suc}
use native.Mathlib.Omega.{arith}
use mathlib.Core.Bool.{true, false≢true}
use mathlib.Core.List.{List, [], ◌∷◌, ◌++◌}
use mathlib.Core.Logic.{◌↔◌}
use mathlib.Core.Option.{Option, none, some}
use mathlib.Core.Path.{◌≡◌, refl, sym, ap, ◌∙◌}
use lib.ListN.{length, get_or, take}
use Rattle.std.specs.Prelude.{Some, None}
use Rattle.std.specs.Prelude as Std
use lib.Seq.{take-suc, take-length}
use Rattle.octets.specs.Octets.{all}
use Rattle.octets.proofs.Parts.{part-whole}
use Rattle.ledger_model.specs.Positions.{size, missing, least, position_number}
use Rattle.ledger_model.specs.Book.{Place, free, row, Book, place, is_free, ticks_of}
use Rattle.ledger_model.specs.Counts.{first_gap_from}
use Rattle.ledger_model.specs.Step.{Ask, RowReport, answer_words, step}
use Rattle.ledger_model.specs.Tally.{ticked}
use Rattle.ledger_model.proofs.Counts.{least-none, none-least}
use Rattle.ledger_model.proofs.Laws.{report-free, report-row}
use Rattle.ledger_sheet.specs.Sheet.{sheet_size, row_count, right}
use Rattle.ledger_layout.specs.Layout.{book_of, place_in, call, on_sheet}
use Rattle.octets.proofs.Lists.{length-table}
use Rattle.octets.specs.Lists.{table}
use Rattle.ledger_season.specs.Report.{most_sheets, missed, three, ticked_in, missing_in, each_sheet, in_all, gap_in, season_gap_from}
use Rattle.ledger_season.specs.Season.{sheet_at, sheet_count, books_to, books, right_to, sheets_words, or_further, report_of}
use Rattle.ledger_season.specs.Laws.{over_sheets, over_rows, Laws, EverySeason}
use Rattle.ledger_season.specs.declared.SheetCounts.{SheetCounts}
use Rattle.ledger_season.specs.declared.SeasonGap.{SeasonGap}
use Rattle.ledger_season.specs.declared.SeasonReport.{SeasonReport}
use Rattle.ledger_season.proofs.Sheets.{length-books}
use Rattle.ledger_season.proofs.Read.{Says, Given, taken, refused, given}

-- ---- in all

pub total-ticked : (r : SeasonReport) (bs : List Book) → Says r bs → r.total.ticked ≡ in_all ticked_in bs
unfolding three
total-ticked r bs h = let e = h.total-is in cc

pub total-missing : (r : SeasonReport) (bs : List Book) → Says r bs → r.total.missing ≡ in_all missing_in bs
unfolding three
total-missing r bs h = let e = h.total-is in cc

over : (cs : List SheetCounts) (n : ℕ) (bs : List Book) → length cs ≡ n → length bs ≤ n → sheets_words cs ≡ each_sheet n bs
    → (over_sheets (λ c. c.ticked) cs ≡ in_all ticked_in bs) × (over_sheets (λ c. c.missing) cs ≡ in_all missing_in bs)
unfolding over_sheets in_all sheets_words each_sheet three
over [] zero [] l m e = (refl, refl)
over [] zero (b ∷ bs) l m e = absurd (omega arith)
over [] (suc n) bs l m e = absurd (omega arith)
over (c ∷ cs) zero bs l m e = absurd (omega arith)
over (c ∷ cs) (suc n) [] l m e =
    let rest : sheets_words cs ≡ each_sheet n [] = cc in
    let k = over cs n [] (omega arith) (omega arith) rest in
    let t : c.ticked ≡ 0 = cc in
    let u : c.missing ≡ 0 = cc in
    (omega (arith, t, k.0), omega (arith, u, k.1))
over (c ∷ cs) (suc n) (b ∷ bs) l m e =
    let rest : sheets_words cs ≡ each_sheet n bs = cc in
    let k = over cs n bs (omega arith) (le_of_suc-le-suc m) rest in
    let t : c.ticked ≡ ticked_in b = cc in
    let u : c.missing ≡ missing_in b = cc in
    (omega (arith, t, k.0), omega (arith, u, k.1))

-- ---- a gap exactly where something is missing

-- The first gap of places, and whether something is missing in them.
data First (r : ℕ) (ps : List Place) : Type 0 where
  no_gap : first_gap_from r ps ≡ [] → missed ps ≡ 0 → First r ps
  a-gap : (number q : ℕ) → first_gap_from r ps ≡ number ∷ q ∷ [] → (missed ps ≡ 0 → ⊥) → First r ps

first : (r : ℕ) (ps : List Place) → First r ps
unfolding first_gap_from missed size missing
first r [] = no_gap refl refl
first r (free ∷ ps) = by (first (suc r) ps)
  where
    by : First (suc r) ps → First r (free ∷ ps)
    by (no_gap e m) = no_gap e (omega arith)
    by (a-gap number q e m) = a-gap number q e (λ z. m (omega arith))
first r (row key start ticks ∷ ps) = by (least (missing ticks)) refl (first (suc r) ps)
  where
    by : (o : Option ℕ) → least (missing ticks) ≡ o → First (suc r) ps → First r (row key start ticks ∷ ps)
    by none e (no_gap f m) = no_gap (rw e f) (omega (arith, least-none (missing ticks) e))
    by none e (a-gap number q f m) = a-gap number q (rw e f) (λ z. m (omega arith))
    by (some i) e rest =
        a-gap (position_number key start i) r (rw e) (λ z.
        let gone : size (missing ticks) ≡ 0 = omega arith in
        let o : ◌≡◌ {A = Option ℕ} none (some i) = sym (none-least (missing ticks) gone) ∙ e in
        false≢true cc)

gap-where : (k : ℕ) (bs : List Book) → (season_gap_from k bs ≡ []) ↔ (in_all missing_in bs ≡ 0)
unfolding season_gap_from in_all
gap-where k [] = (λ e. refl, λ e. refl)
gap-where k (b ∷ bs) = by (first 0 b.places) (gap-where (suc k) bs)
  where
    by : First 0 b.places → (season_gap_from (suc k) bs ≡ []) ↔ (in_all missing_in bs ≡ 0)
        → (gap_in k (first_gap_from 0 b.places) (season_gap_from (suc k) bs) ≡ []) ↔ (missing_in b + in_all missing_in bs ≡ 0)
    by (no_gap e m) h = (λ f. let z = h.0 (rw e at f) in omega arith, λ f. rw e (h.1 (omega arith)))
    by (a-gap number q e m) h = (
      λ f. let g : ◌≡◌ {A = List ℕ} (k ∷ q ∷ number ∷ []) [] = rw e at f in cc,
      λ f. absurd (m (omega arith)),
    )

gap-none : (g : Std.Option SeasonGap) → (g ≡ None) ↔ (or_further g [] ≡ [])
gap-none None = (λ e. refl, λ e. refl)
gap-none (Some g) =
    (λ e. cc, λ e. cc)

says-gap : (r : SeasonReport) (bs : List Book) → Says r bs → (r.gap ≡ None) ↔ (r.total.missing ≡ 0)
says-gap r bs h =
    let m = total-missing r bs h in
    (λ e. m ∙ (gap-where 0 bs).0 (sym h.gap_is ∙ (gap-none r.gap).0 e), λ e. (gap-none r.gap).1 (h.gap_is ∙ (gap-where 0 bs).1 (sym m ∙ e)))

-- ---- one sheet

sum_of : (Place → ℕ) → List Place → ℕ
sum_of f [] = 0
sum_of f (p ∷ ps) = f p + sum_of f ps

sum-snoc : (f : Place → ℕ) (ps : List Place) (p : Place) → sum_of f (ps ++ p ∷ []) ≡ sum_of f ps + f p
unfolding sum_of
sum-snoc f [] p = omega arith
sum-snoc f (q ∷ ps) p = omega (arith, sum-snoc f ps p)

abbrev ticks_in : Place → ℕ
ticks_in p = size (ticks_of p)

abbrev gaps_in : Place → ℕ
gaps_in p = size (missing (ticks_of p))

ticked-sum : (ps : List Place) → ticked ps ≡ sum_of ticks_in ps
unfolding ticked sum_of
ticked-sum [] = refl
ticked-sum (p ∷ ps) = rw (ticked-sum ps)

missed-sum : (ps : List Place) → missed ps ≡ sum_of gaps_in ps
unfolding missed sum_of
missed-sum [] = refl
missed-sum (p ∷ ps) = rw (missed-sum ps)

-- word k of the reports is f of the places
module _ (s : List ℕ) (k : ℕ) (f : Place → ℕ) (word : (i : ℕ) → get_or (on_sheet (call (Ask (RowReport i))) s).0 k 0 ≡ f (place (book_of s) i)) where
  rows-sum : (n : ℕ) → n ≤ length (book_of s).places → over_rows s k n ≡ sum_of f (take n (book_of s).places)
  unfolding over_rows sum_of
  rows-sum zero l = refl
  rows-sum (suc n) l =
      let ps = (book_of s).places in
      rw (rows-sum n (omega arith), word n, take-suc ps n free l) (sym (sum-snoc f (take n ps) (get_or ps n free)))

  all-rows : over_rows s k row_count ≡ sum_of f (book_of s).places
  unfolding book_of
  all-rows =
      let count = length-table row_count (place_in s) in
      rows-sum row_count (omega (arith, count)) ∙ ap (sum_of f) (ap (λ n. take n (book_of s).places) (sym count) ∙ take-length (book_of s).places)

-- the words of a row's report, of a free one too
module _ (s : List ℕ) (right_is : right s ≡ true) where
  report-words : (i : ℕ) → (get_or (on_sheet (call (Ask (RowReport i))) s).0 1 0 ≡ ticks_in (place (book_of s) i))
      × (get_or (on_sheet (call (Ask (RowReport i))) s).0 2 0 ≡ gaps_in (place (book_of s) i))
  unfolding on_sheet size missing
  report-words i = rw right_is (by (place (book_of s) i) refl)
    where
      by : (p : Place) → place (book_of s) i ≡ p
          → (get_or (answer_words (step (Ask (RowReport i)) (book_of s)).answer) 1 0 ≡ ticks_in (place (book_of s) i))
          × (get_or (answer_words (step (Ask (RowReport i)) (book_of s)).answer) 2 0 ≡ gaps_in (place (book_of s) i))
      by free e = rw (report-free (book_of s) i (ap is_free e), e) (refl, refl)
      by (row key start ticks) e = rw (report-row (book_of s) i (ap is_free e), e) (refl, refl)

  pub ticked-rows : ticked (book_of s).places ≡ over_rows s 1 row_count
  ticked-rows = ticked-sum _ ∙ sym (all-rows s 1 ticks_in (λ i. (report-words i).0))

  pub missed-rows : missed (book_of s).places ≡ over_rows s 2 row_count
  missed-rows = missed-sum _ ∙ sym (all-rows s 2 gaps_in (λ i. (report-words i).1))

-- a slice as long as one sheet
module _ (s : List ℕ) (long : length s ≡ sheet_size) where
  pub one : sheet_count s ≡ 1
  one = omega (arith, long)

  pub whole : sheet_at s 0 ≡ s
  whole = part-whole s sheet_size long

  pub one-book : books s ≡ book_of s ∷ []
  unfolding books_to table
  one-book = rw (one, whole)

  pub one-sum : (count : Book → ℕ) → in_all count (books s) ≡ count (book_of s)
  unfolding in_all
  one-sum count = rw one-book (omega arith)

  one_right : right_to s (sheet_count s) ≡ true → right s ≡ true
  unfolding right_to all
  one_right e = rw (one, whole) at e

-- ---- the laws

pub laws : EverySeason
laws s a answers = by (given s a answers)
  where
    r : SeasonReport
    r = report_of a

    added : (bs : List Book) → length bs ≤ most_sheets → Says r bs
        → (over_sheets (λ c. c.ticked) r.sheets ≡ in_all ticked_in bs) × (over_sheets (λ c. c.missing) r.sheets ≡ in_all missing_in bs)
    added bs few h = over r.sheets most_sheets bs (ap (λ p. p.0) answers) few h.sheets-are

    by : Given s a → Laws s a
    by (taken d fits right-all h) =
        let few : length (books s) ≤ most_sheets = rw (length-books s (sheet_count s)) fits.few in
        let sums = added (books s) few h in
        record {
          ticked_in_all = total-ticked r (books s) h ∙ sym sums.0;
          missing-in-all = total-missing r (books s) h ∙ sym sums.1;
          gap_exactly = says-gap r (books s) h;
          one_ticked = λ long done. total-ticked r (books s) h ∙ one-sum s long ticked_in ∙ ticked-rows s (one_right s long right-all);
          one_missing = λ long done. total-missing r (books s) h ∙ one-sum s long missing_in ∙ missed-rows s (one_right s long right-all);
        }
    by (refused d h) =
        let sums = added [] (omega arith) h in
        record {
          ticked_in_all = total-ticked r [] h ∙ sym sums.0;
          missing-in-all = total-missing r [] h ∙ sym sums.1;
          gap_exactly = says-gap r [] h;
          one_ticked = λ long done. absurd (d done);
          one_missing = λ long done. absurd (d done);
        }
