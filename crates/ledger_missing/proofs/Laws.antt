-- The laws of the missing list for sheets. Assumes nothing.
use Prim.Native.Nat.{ℕ}
use native.Mathlib.Omega.{arith}
use mathlib.Core.Path.{◌≡◌, refl, sym, ap, ◌∙◌}
use mathlib.Core.Logic.{◌≢◌}
use mathlib.Core.Bool.{Bool, true, false, true≢false}
use mathlib.Core.List.{List, [], ◌∷◌}
use borrow.Author.Tests.{le-ltb}
use lib.ListN.{length}
use Rattle.refusals.specs.Judge.{judge}
use Rattle.refusals.specs.Words.{one_word}
use Rattle.refusals.proofs.Words.{answers-differ, one-differs}
use Rattle.ledger_model.specs.Book.{Place, free, row, Book, place, is_free}
use Rattle.ledger_model.specs.Counts.{place_report}
use Rattle.ledger_model.specs.WellFormed.{PlaceOk}
use Rattle.ledger_model.specs.Step.{Ask, RowReport, refusals, asked, effect, step}
use Rattle.ledger_model.proofs.Missing.{as-reported, exactly-missing, long-enough}
use Rattle.ledger_sheet.specs.Sheet.{right}
use Rattle.ledger_layout.specs.Layout.{book_of, call, on_sheet}
use Rattle.ledger_layout.proofs.Read.{book-fine}
use Rattle.ledger_missing.specs.Missing.{DifferentMissing, missing_of, missing_on}
use Rattle.ledger_missing.specs.Laws.{MissingList, EveryMissingList, NeverTooShort}

pub different-missing : DifferentMissing
different-missing = answers-differ one_word one-differs

-- The words of a row report on a row that there is.
report-words : (b : Book) (i : ℕ) → is_free (place b i) ≡ false → (call (Ask (RowReport i)) b).0 ≡ 0 ∷ place_report (place b i)
unfolding step refusals judge effect asked
report-words b i u = rw u

pub every-missing-list : EveryMissingList
unfolding on_sheet
every-missing-list s bytes r i u = at (place (book_of s) i) refl ((book-fine s (λ k. record { fits = bytes k }) r).place_ok i)
  where
    at : (p : Place) → place (book_of s) i ≡ p → PlaceOk (place (book_of s) i) → MissingList s i
    at free e ok = absurd (true≢false (sym (ap is_free e) ∙ u))
    at (row key first ticks) e ok =
        record {
          as-reported = rw r (report-words (book_of s) i u ∙ rw e (ap (λ (l : List ℕ). 0 ∷ l) (as-reported key first ticks)));
          exactly = λ n. rw e (exactly-missing key first ticks (rw e at ok) n);
        }

pub never-too-short : NeverTooShort
unfolding missing_on judge
never-too-short s list i bytes l = by (right s) refl (is_free (place (book_of s) i)) refl
  where
    head : List ℕ → ℕ
    head [] = 0
    head (x ∷ xs) = x

    by : (t : Bool) → right s ≡ t → (u : Bool) → is_free (place (book_of s) i) ≡ u → (missing_on i s list).0 ≢ 60 ∷ []
    by false r u f = rw r (λ e. let q : ◌≡◌ {A = ℕ} 20 60 = ap head e in omega arith)
    by true r true f = rw (r, f) (λ e. let q : ◌≡◌ {A = ℕ} 25 60 = ap head e in omega arith)
    by true r false f =
        let few = long-enough (place (book_of s) i) ((book-fine s (λ k. record { fits = bytes k }) r).place_ok i) in
        rw (r, f, le-ltb (length list) (length (missing_of s i)) (omega arith)) (λ e. let q : ◌≡◌ {A = ℕ} 0 60 = ap head e in omega arith)
