-- What the words of an answer say of it. Assumes nothing.
use Prim.Native.Nat.{ℕ, zero, suc, ◌*◌}
use native.Mathlib.Omega.{arith}
use mathlib.Core.Bool.{Bool, true, false, false≢true}
use mathlib.Core.List.{List, [], ◌∷◌, ◌++◌}
use mathlib.Core.Path.{◌≡◌, refl, sym, ap, ◌∙◌}
use lib.ListN.{length, length-append}
use Rattle.std.specs.Prelude.{Result, Ok, Err, IsOk}
use Rattle.refusals.specs.declared.Refusal.{Refusal}
use Rattle.refusals.specs.Judge.{judge}
use Rattle.refusals.proofs.Laws.{number-positive}
use Rattle.ledger_model.specs.Book.{Book}
use Rattle.ledger_season.specs.Report.{most_sheets, three, ticked_in, missing_in, each_sheet, in_all, season_gap_from, report, key_in_two}
use Rattle.ledger_season.specs.Season.{sheet_count, books, right_to, season, answer_number, counts_words, sheets_words, or_further, report_of, report_words, Answers}
use Rattle.ledger_season.specs.declared.SheetCounts.{SheetCounts}
use Rattle.ledger_season.specs.declared.SeasonReport.{SeasonReport}
use Rattle.ledger_season.proofs.Judged.{Fit, fit, wrong_length}

-- ---- the words, part by part

pub append-parts : {A : Type 0} (a b c d : List A) → length a ≡ length c → a ++ b ≡ c ++ d → (a ≡ c) × (b ≡ d)
append-parts [] b [] d l e = (refl, e)
append-parts [] b (y ∷ c) d l e = absurd (omega arith)
append-parts (x ∷ a) b [] d l e = absurd (omega arith)
append-parts (x ∷ a) b (y ∷ c) d l e =
    let rest : a ++ b ≡ c ++ d = cc in
    let first : x ≡ y = cc in
    let k = append-parts a b c d (omega arith) rest in
    (cc k.0, k.1)

pub length-sheets : (cs : List SheetCounts) → length (sheets_words cs) ≡ 3 * length cs
unfolding sheets_words
length-sheets [] = refl
length-sheets (c ∷ cs) = omega (arith, length-sheets cs)

length-each : (n : ℕ) (bs : List Book) → length (each_sheet n bs) ≡ 3 * n
unfolding each_sheet three
length-each zero bs = refl
length-each (suc n) [] = omega (arith, length-each n [])
length-each (suc n) (b ∷ bs) = omega (arith, length-each n bs)

-- The answer r says what the report on the books bs says.
pub record Says (r : SeasonReport) (bs : List Book) : Type 0 where
  pub count-is : r.count ≡ length bs
  pub sheets-are : sheets_words r.sheets ≡ each_sheet most_sheets bs
  pub total-is : counts_words r.total ≡ three (in_all ticked_in bs) (in_all missing_in bs)
  pub gap_is : or_further r.gap [] ≡ season_gap_from 0 bs

says : (r : SeasonReport) (bs : List Book) → length r.sheets ≡ most_sheets
    → r.count ∷ sheets_words r.sheets ++ counts_words r.total ++ or_further r.gap [] ≡ report bs → Says r bs
unfolding report three
says r bs l e =
    let body : sheets_words r.sheets ++ counts_words r.total ++ or_further r.gap []
    ≡ each_sheet most_sheets bs ++ three (in_all ticked_in bs) (in_all missing_in bs) ++ season_gap_from 0 bs = cc in
    let first = sheets_words r.sheets in
    let same_length : length first ≡ length (each_sheet most_sheets bs) = omega (arith, length-sheets r.sheets, length-each most_sheets bs) in
    let same-length-more : length (first ++ counts_words r.total) ≡ length (each_sheet most_sheets bs ++ three (in_all ticked_in bs) (in_all missing_in bs)) =
    rw (length-append, length-append, same_length) in
    let parts = append-parts _ _ _ _ same-length-more body in
    let front = append-parts _ _ _ _ same_length parts.0 in
    record { count-is = cc; sheets-are = front.0; total-is = front.1; gap_is = parts.1 }

-- ---- a season is accepted or refused

-- Accepted, with the books of right sheets; or refused, which is answered as no sheet is.
pub data Given (s : List ℕ) (a : Result SeasonReport Refusal) : Type 0 where
  taken : IsOk a → Fit s → right_to s (sheet_count s) ≡ true → Says (report_of a) (books s) → Given s a
  refused : (IsOk a → ⊥) → Says (report_of a) [] → Given s a

refused-not-done : (a : Result SeasonReport Refusal) (q : ℕ) → answer_number a ≡ q → (q ≡ 0 → ⊥) → IsOk a → ⊥
refused-not-done (Ok r) q e p d = p (sym e)
refused-not-done (Err why) q e p d = false≢true d

done-if-zero : (a : Result SeasonReport Refusal) → answer_number a ≡ 0 → IsOk a
done-if-zero (Ok r) e = refl
done-if-zero (Err why) e = absurd (number-positive why e)

-- What no rule refuses is accepted.
pub accepts : (s : List ℕ) (r : Result SeasonReport Refusal) → wrong_length s ≡ false → right_to s (sheet_count s) ≡ true → key_in_two (books s) ≡ false
    → Answers (season s) r → IsOk r
unfolding season judge
accepts s r long right-all once answers =
    let words : report_words r ≡ 0 ∷ report (books s) = ap (λ p. p.1) answers ∙ rw (long, right-all, once) in
    done-if-zero r (cc)

pub given : (s : List ℕ) (r : Result SeasonReport Refusal) → Answers (season s) r → Given s r
unfolding season judge
given s r answers = by (wrong_length s) refl (right_to s (sheet_count s)) refl (key_in_two (books s)) refl
  where
    l : length (report_of r).sheets ≡ most_sheets
    l = ap (λ p. p.0) answers

    e : report_words r ≡ season s
    e = ap (λ p. p.1) answers

    refusal : (q : ℕ) → (q ≡ 0 → ⊥) → report_words r ≡ q ∷ report [] → Given s r
    refusal q p h = refused (refused-not-done r q (cc) p) (says (report_of r) [] l (cc))

    by : (a : Bool) → wrong_length s ≡ a → (b : Bool) → right_to s (sheet_count s) ≡ b → (t : Bool) → key_in_two (books s) ≡ t → Given s r
    by true ea b eb t et = refusal 42 (λ z. omega arith) (e ∙ rw ea)
    by false ea false eb t et = refusal 20 (λ z. omega arith) (e ∙ rw (ea, eb))
    by false ea true eb true et = refusal 41 (λ z. omega arith) (e ∙ rw (ea, eb, et))
    by false ea true eb false et =
        let h : report_words r ≡ 0 ∷ report (books s) = e ∙ rw (ea, eb, et) in
        taken (done-if-zero r (cc)) (fit s ea) eb (says (report_of r) (books s) l (cc))
