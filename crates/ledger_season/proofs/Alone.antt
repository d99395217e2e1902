-- The season of one sheet of an accepted season. Assumes nothing.
use Prim.Native.Nat.{ℕ, zero, suc, ◌≤◌, ◌<◌}
use native.Mathlib.Nat.{le_of_suc-le-suc}
use native.Mathlib.Omega.{arith}
use mathlib.Core.Bool.{true, false}
use mathlib.Core.List.{List, [], ◌∷◌}
use mathlib.Core.Path.{◌≡◌, refl, sym, ap, ◌∙◌}
use lib.ListN.{length, get_or}
use Rattle.std.specs.Prelude.{Result, IsOk}
use Rattle.refusals.specs.declared.Refusal.{Refusal}
use Rattle.octets.specs.Octets.{all}
use Rattle.octets.proofs.Laws.{all-at}
use Rattle.octets.proofs.Lists.{get_or-table}
use Rattle.ledger_model.specs.Book.{Place, free, row, Book, fresh}
use Rattle.ledger_sheet.specs.Sheet.{sheet_size, right}
use Rattle.ledger_layout.specs.Layout.{book_of}
use Rattle.ledger_season.specs.Report.{most_sheets, three, ticked_in, missing_in, each_sheet, key_in_one, any_in_one, key_in_two}
use Rattle.ledger_season.specs.Season.{sheet_at, sheet_count, books_to, books, right_to, season, counts_words, sheets_words, report_of, Answers}
use Rattle.ledger_season.specs.Laws.{Alone, EachAlone}
use Rattle.ledger_season.specs.declared.SheetCounts.{SheetCounts}
use Rattle.ledger_season.specs.declared.SeasonReport.{SeasonReport}
use Rattle.ledger_season.proofs.Sheets.{length-books, length-sheet}
use Rattle.ledger_season.proofs.Judged.{Fit}
use Rattle.ledger_season.proofs.Read.{Says, Given, taken, refused, accepts, given}
use Rattle.ledger_season.proofs.Laws.{one, whole, one-book, one-sum}
use Rattle.ledger_season.proofs.Words.{counts_same}

-- Place k has the numbers of book k.
place-words : (cs : List SheetCounts) (n : ℕ) (bs : List Book) (k : ℕ) → length cs ≡ n → length bs ≤ n → k < length bs
    → sheets_words cs ≡ each_sheet n bs → (outside : SheetCounts)
    → counts_words (get_or cs k outside) ≡ three (ticked_in (get_or bs k fresh)) (missing_in (get_or bs k fresh))
unfolding sheets_words each_sheet three
place-words [] n bs k l few i e outside = absurd (omega arith)
place-words (c ∷ cs) zero bs k l few i e outside = absurd (omega arith)
place-words (c ∷ cs) (suc n) [] k l few i e outside = absurd (omega arith)
place-words (c ∷ cs) (suc n) (b ∷ bs) zero l few i e outside = cc
place-words (c ∷ cs) (suc n) (b ∷ bs) (suc k) l few i e outside =
    let rest : sheets_words cs ≡ each_sheet n bs = cc in
    place-words cs n bs k (omega arith) (le_of_suc-le-suc few) (le_of_suc-le-suc i) rest outside

-- No key of one book alone is in two.
no_other : (ps : List Place) → any_in_one ps [] ≡ false
unfolding any_in_one key_in_one
no_other [] = refl
no_other (free ∷ ps) = no_other ps
no_other (row key first ticks ∷ ps) = no_other ps

module _ (sheet : List ℕ) (long : length sheet ≡ sheet_size) where
  right-alone : right sheet ≡ true → right_to sheet (sheet_count sheet) ≡ true
  unfolding right_to all
  right-alone e = rw (one sheet long, whole sheet long, e)

  once-alone : key_in_two (books sheet) ≡ false
  unfolding key_in_two
  once-alone = rw (one-book sheet long, no_other (book_of sheet).places)

  accepted-alone : (r : Result SeasonReport Refusal) → right sheet ≡ true → Answers (season sheet) r → IsOk r
  accepted-alone r e answers = accepts sheet r (rw long) (right-alone e) once-alone answers

-- Sheet k of a season that is accepted.
module _ (s : List ℕ) (r : Result SeasonReport Refusal) (answers : Answers (season s) r) (k : ℕ) (counted : k < (report_of r).count)
    (fits : Fit s) (right-all : right_to s (sheet_count s) ≡ true) (says : Says (report_of r) (books s)) where
  inside : k < sheet_count s
  inside = omega (arith, says.count-is, length-books s (sheet_count s))

  long : length (sheet_at s k) ≡ sheet_size
  long = length-sheet s (sheet_count s) k inside fits.within

  is_right : right (sheet_at s k) ≡ true
  unfolding right_to
  is_right = all-at (sheet_count s) k _ right-all inside

  book-is : get_or (books s) k fresh ≡ book_of (sheet_at s k)
  unfolding books_to
  book-is = get_or-table (sheet_count s) (λ j. book_of (sheet_at s j)) k fresh inside

  at_place : (outside : SheetCounts) → let b = book_of (sheet_at s k) in counts_words (get_or (report_of r).sheets k outside) ≡ three (ticked_in b) (missing_in b)
  at_place outside =
      let count = length-books s (sheet_count s) in
      let few : length (books s) ≤ most_sheets = rw count fits.few in
      let words = place-words (report_of r).sheets most_sheets (books s) k (ap (λ p. p.0) answers) few (rw count inside) says.sheets-are outside in
      rw book-is at words

  in-all-alone : (alone : SeasonReport) → Says alone (books (sheet_at s k))
      → let b = book_of (sheet_at s k) in counts_words alone.total ≡ three (ticked_in b) (missing_in b)
  in-all-alone alone h = rw (one-sum (sheet_at s k) long ticked_in, one-sum (sheet_at s k) long missing_in) at h.total-is

  found-alone : (alone : Result SeasonReport Refusal) → Answers (season (sheet_at s k)) alone → Alone r k alone
  found-alone alone answers-alone = by (given (sheet_at s k) alone answers-alone)
    where
      by : Given (sheet_at s k) alone → Alone r k alone
      by (taken d fits-alone right-sheet h) =
          record { accepted = d; numbers = λ outside. counts_same _ _ (at_place outside ∙ sym (in-all-alone (report_of alone) h)) }
      by (refused d h) = absurd (d (accepted-alone (sheet_at s k) long alone is_right answers-alone))

pub each-alone : EachAlone
each-alone s r answers done k counted alone answers-alone = by (given s r answers)
  where
    by : Given s r → Alone r k alone
    by (taken d fits right-all says) = found-alone s r answers k counted fits right-all says alone answers-alone
    by (refused d says) = absurd (d done)
