-- Request 13's identity, for every season whose sheets were made by calls from fresh ones. Assumes nothing.
use Prim.Native.Nat.{ℕ, zero, suc, ◌+◌, ◌*◌, ◌%◌, ◌≤◌, ◌<◌}
use native.Mathlib.Nat.{mul-mod_right, mul-div_right, le_of_suc-le-suc}
use native.Mathlib.Omega.{arith}
use mathlib.Core.Bool.{true, false}
use mathlib.Core.List.{List, [], ◌∷◌, ◌++◌, map}
use mathlib.Core.Path.{◌≡◌, refl, ap, ◌∙◌, subst}
use lib.Dec.{lit<}
use lib.ListN.{length, get_or, length-append}
use Rattle.std.specs.Prelude.{Result, IsOk}
use Rattle.refusals.specs.declared.Refusal.{Refusal}
use borrow.Author.Tests.{le-ltb}
use Rattle.octets.proofs.Laws.{all-each}
use Rattle.octets.proofs.Parts.{part-whole, part-first, part-second}
use Rattle.ledger_model.specs.Book.{fresh}
use Rattle.ledger_model.specs.Step.{Entry, call_of, book_after}
use Rattle.ledger_model.specs.Chain.{Chain}
use Rattle.ledger_model.specs.WellFormed.{WellFormed}
use Rattle.ledger_model.specs.Tally.{saved_ticks, saved_unticks, Tallies}
use Rattle.ledger_model.proofs.WellFormed.{run-well-formed}
use Rattle.ledger_model.proofs.Tally.{model-tally}
use Rattle.ledger_sheet.specs.Sheet.{sheet_size}
use Rattle.ledger_layout.specs.Layout.{book_of, layout}
use Rattle.ledger_layout.proofs.Places.{shape, length-layout}
use Rattle.ledger_layout.proofs.Right.{reads-back, layout-right}
use Rattle.octets.proofs.Lists.{table_is}
use Rattle.ledger.specs.Demand3.{MadeFresh, Promised}
use Rattle.ledger.proofs.Demand3.{demand-3}
use Rattle.ledger_season.specs.Report.{most_sheets, ticked_in, in_all, key_in_two}
use Rattle.ledger_season.specs.Season.{sheet_at, sheet_count, books_to, books, right_to, report_of, season, Answers}
use Rattle.ledger_season.specs.Identity.{Grown, no-sheet, and_sheet, laid_in_one, over_logs, EveryGrown}
use Rattle.ledger_season.specs.declared.SeasonReport.{SeasonReport}
use Rattle.ledger_season.proofs.Judged.{wrong_length}
use Rattle.ledger_season.proofs.Read.{Given, taken, refused, accepts, given}
use Rattle.ledger_season.proofs.Laws.{total-ticked}

-- ---- one sheet

record Sheet (log : List Entry) (last : List ℕ) : Type 0 where
  store : last ≡ layout (book_after log)
  ok : WellFormed (book_after log)
  tally : Tallies log

sheet-of : (s : List ℕ) {start last : List ℕ} {log : List Entry} → MadeFresh s start → Chain Promised start log last → Sheet log last
sheet-of s {log = log} made chain =
    let claim = (demand-3 s made chain).claim in
    record {
      store = claim.model_store;
      ok = run-well-formed (map call_of log);
      tally = subst (λ l. Tallies l) claim.model_answers (model-tally (map call_of log));
    }

long : {log : List Entry} {last : List ℕ} → Sheet log last → length last ≡ sheet_size
long {log = log} x = ap length x.store ∙ length-layout (book_after log) (shape x.ok)

-- ---- all sheets

-- The books after the logs are those of the sheets.
record Sheets (logs : List (List Entry)) (sheets : List (List ℕ)) : Type 0 where
  count : length (map book_after logs) ≡ length sheets
  whole : length (laid_in_one sheets) ≡ sheet_size * length sheets
  sheet-is : (k : ℕ) → k < length sheets → sheet_at (laid_in_one sheets) k ≡ layout (get_or (map book_after logs) k fresh)
  book-ok : (k : ℕ) → k < length sheets → WellFormed (get_or (map book_after logs) k fresh)
  tally : in_all ticked_in (map book_after logs) + over_logs saved_unticks logs ≡ over_logs saved_ticks logs

none : Sheets [] []
unfolding laid_in_one in_all over_logs
none = record { count = refl; whole = refl; sheet-is = λ k l. absurd (omega arith); book-ok = λ k l. absurd (omega arith); tally = refl }

more : {log : List Entry} {last : List ℕ} {logs : List (List Entry)} {sheets : List (List ℕ)} → Sheet log last → Sheets logs sheets
    → Sheets (log ∷ logs) (last ∷ sheets)
unfolding laid_in_one in_all over_logs
more {log} {last} {logs} {sheets} x xs =
    record {
      count = ap suc xs.count;
      whole = rw (length-append, xs.whole) (omega (arith, long x));
      sheet-is = at;
      book-ok = ok;
      tally = omega (arith, x.tally, xs.tally);
    }
  where
    at : (k : ℕ) → k < suc (length sheets) → sheet_at (last ++ laid_in_one sheets) k ≡ layout (get_or (book_after log ∷ map book_after logs) k fresh)
    at zero l =
        part-first last (laid_in_one sheets) (sheet_size * 0) sheet_size (omega (arith, long x)) ∙ part-whole last sheet_size (long x) ∙ x.store
    at (suc k) l =
        part-second last (laid_in_one sheets) (sheet_size * suc k) (sheet_size * k) sheet_size (omega (arith, long x)) ∙ xs.sheet-is k (le_of_suc-le-suc l)

    ok : (k : ℕ) → k < suc (length sheets) → WellFormed (get_or (book_after log ∷ map book_after logs) k fresh)
    ok zero l = x.ok
    ok (suc k) l = xs.book-ok k (le_of_suc-le-suc l)

sheets-of : {logs : List (List Entry)} {sheets : List (List ℕ)} → Grown logs sheets → Sheets logs sheets
sheets-of no-sheet = none
sheets-of (and_sheet s made chain rest) = more (sheet-of s made chain) (sheets-of rest)

module _ (logs : List (List Entry)) (sheets : List (List ℕ)) (h : Sheets logs sheets) where
  s : List ℕ
  s = laid_in_one sheets

  counted : sheet_count s ≡ length sheets
  unfolding s
  counted = rw h.whole (mul-div_right (length sheets) (lit< tt))

  books-are : books s ≡ map book_after logs
  unfolding books_to s
  books-are =
      rw counted
      (table_is (length sheets) (λ k. book_of (sheet_at s k)) (map book_after logs) fresh h.count (λ k l.
      ap book_of (h.sheet-is k l) ∙ reads-back (get_or (map book_after logs) k fresh) (h.book-ok k l)))

  not-long : length sheets ≤ most_sheets → wrong_length s ≡ false
  unfolding s
  not-long few =
      let even : length s % sheet_size ≡ 0 = rw h.whole (mul-mod_right sheet_size (length sheets)) in
      rw (even, counted) (le-ltb most_sheets (length sheets) few)

  are-right : right_to s (sheet_count s) ≡ true
  unfolding right_to s
  are-right =
      rw counted
      (all-each (length sheets) _ (λ k l. rw (h.sheet-is k l) (layout-right (get_or (map book_after logs) k fresh) (h.book-ok k l))))

  taken-if : (r : Result SeasonReport Refusal) → Answers (season s) r → length sheets ≤ most_sheets → key_in_two (map book_after logs) ≡ false → IsOk r
  taken-if r answers few once = accepts s r (not-long few) are-right (rw books-are once) answers

pub season-identity : EveryGrown
unfolding s
season-identity logs sheets grown r answers =
    let h = sheets-of grown in
    record { accepted = taken-if logs sheets h r answers; balanced = balance h (given (laid_in_one sheets) r answers) }
  where
    balance : Sheets logs sheets → Given (laid_in_one sheets) r → IsOk r → (report_of r).total.ticked + over_logs saved_unticks logs ≡ over_logs saved_ticks logs
    balance h (taken d fits right-all k) done =
        let total : (report_of r).total.ticked ≡ in_all ticked_in (map book_after logs) = total-ticked (report_of r) _ k ∙ ap (in_all ticked_in) (books-are logs sheets h) in
        omega (arith, total, h.tally)
    balance h (refused d k) done = absurd (d done)
