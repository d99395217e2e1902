-- The words of a season in all are those of the season's report but for its sheets'. Assumes nothing.
use Prim.Native.Nat.{ℕ, ◌*◌}
use native.Mathlib.Omega.{arith}
use borrow.Author.Tests.{ne_eqb}
use mathlib.Core.List.{List, [], ◌∷◌, ◌++◌, append_assoc}
use mathlib.Core.Path.{◌≡◌, refl, sym, ap, ◌∙◌}
use lib.ListN.{length, drop}
use lib.Seq.{drop_at}
use Rattle.std.specs.Prelude.{Result, Ok, Err}
use Rattle.refusals.specs.declared.Refusal.{Refusal}
use Rattle.ledger_season.proofs.Read.{length-sheets}
use Rattle.refusals.proofs.Laws.{number-positive}
use Rattle.refusals.specs.Table.{number_of}
use Rattle.ledger_season.specs.Report.{most_sheets}
use Rattle.ledger_season.specs.Season.{counts_words, sheets_words, or_further, report_words, Answers}
use Rattle.ledger_season.specs.declared.SeasonReport.{SeasonReport}
use Rattle.ledger_answers.specs.inner.Seasons.{in_all_words}
use Rattle.host.specs.Seasons.{in_all_of}

-- the words of the sheets cut out
cut : (r : SeasonReport) (sheets : List ℕ) → length sheets ≡ 3 * most_sheets
    → in_all_of (0 ∷ r.count ∷ sheets ++ counts_words r.total ++ or_further r.gap []) ≡ in_all_words (Ok r)
unfolding in_all_of
cut r sheets e =
    let further = counts_words r.total ++ or_further r.gap [] in
    ap (λ (l : List ℕ). 0 ∷ r.count ∷ drop (3 * most_sheets) l) (append_assoc sheets (counts_words r.total) (or_further r.gap []))
    ∙ ap (λ (l : List ℕ). 0 ∷ r.count ∷ l) (drop_at sheets further (3 * most_sheets) e)

-- a refusal's number alone
alone : (why : Refusal) → in_all_of (report_words (Err why)) ≡ in_all_words (Err why)
unfolding in_all_of
alone why = rw (ne_eqb (number_of why) 0 (number-positive why)) refl

pub in_all_lem : {words : List ℕ} (a : Result SeasonReport Refusal) → Answers words a → in_all_words a ≡ in_all_of words
in_all_lem (Ok r) e =
    let count : length r.sheets ≡ most_sheets = ap (λ (p : ℕ × List ℕ). p.0) e in
    let size : length (sheets_words r.sheets) ≡ 3 * most_sheets = length-sheets r.sheets ∙ omega (arith, count) in
    sym (cut r (sheets_words r.sheets) size) ∙ ap (λ (p : ℕ × List ℕ). in_all_of p.1) e
in_all_lem (Err why) e = sym (alone why) ∙ ap (λ (p : ℕ × List ℕ). in_all_of p.1) e
