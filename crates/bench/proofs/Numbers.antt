-- An answer of a few numbers, and the zeros behind them; the counts of a season. Assumes nothing.
use Prim.Native.Nat.{ℕ, zero, suc, ◌*◌}
use native.Mathlib.Omega.{arith}
use mathlib.Core.List.{List, [], ◌∷◌, ◌++◌, append_assoc}
use mathlib.Core.Path.{◌≡◌, refl, sym, ap, ◌∙◌}
use lib.Bits.{bit_xor}
use lib.ListN.{length, get_or, drop, replicate}
use lib.Seq.{drop_at}
use Rattle.std.specs.Prelude.{Ok, Err}
use Rattle.refusals.specs.declared.Refusal.{Refusal}
use Rattle.ledger_season.proofs.Read.{length-sheets}
use Rattle.ledger_season.specs.declared.SeasonReport.{SeasonReport}
use Rattle.ledger_season.specs.Report.{most_sheets}
use Rattle.ledger_season.specs.Season.{counts_words, sheets_words, or_further, Answers}
use Rattle.sfdu_headers.specs.Words.{Word}
use Rattle.answers.specs.Numbers.{numbers_of}
use Rattle.answers.specs.inner.Numbers.{Few}
use Rattle.bench.specs.inner.Digest.{few_onto, counts_onto, season_onto}

zeros-at : (k i : ℕ) → ◌≡◌ {A = ℕ} (get_or (replicate k 0) i 0) 0
zeros-at zero i = refl
zeros-at (suc k) zero = refl
zeros-at (suc k) (suc i) = zeros-at k i

past-zeros : (xs : List ℕ) (k i : ℕ) → get_or (xs ++ replicate k 0) i 0 ≡ get_or xs i 0
past-zeros [] k i = zeros-at k i
past-zeros (x ∷ xs) k zero = refl
past-zeros (x ∷ xs) k (suc i) = past-zeros xs k i

pub few-onto : {numbers : List ℕ} {words : List Word} (promised : List Word) → words ≡ promised → Few numbers words
    → few_onto numbers ≡ few_onto (numbers_of promised)
few-onto {numbers = ns} promised e f =
    rw (← e, ← f.same, past-zeros ns 28 0, past-zeros ns 28 1, past-zeros ns 28 2, past-zeros ns 28 3)

-- ---- a season

pub season-onto : {words : List ℕ} (r : SeasonReport) → Answers words (Ok r) → bit_xor r.count (counts_onto (counts_words r.total)) ≡ season_onto words
season-onto r e =
    let count : length r.sheets ≡ most_sheets = ap (λ (p : ℕ × List ℕ). p.0) e in
    let sheets = sheets_words r.sheets in
    let size : length sheets ≡ 3 * most_sheets = length-sheets r.sheets ∙ omega (arith, count) in
    let further = counts_words r.total ++ or_further r.gap [] in
    let behind : drop (3 * most_sheets) (sheets ++ counts_words r.total ++ or_further r.gap []) ≡ further =
    ap (λ (l : List ℕ). drop (3 * most_sheets) l) (append_assoc sheets (counts_words r.total) (or_further r.gap []))
    ∙ drop_at sheets further (3 * most_sheets) size in
    sym (ap (λ (l : List ℕ). bit_xor r.count (counts_onto l)) behind) ∙ ap (λ (p : ℕ × List ℕ). season_onto p.1) e

-- A refused season has no sheet, and zeros.
pub refused-onto : {words : List ℕ} (why : Refusal) → Answers words (Err why) → 0 ≡ season_onto words
unfolding sheets_words
refused-onto why e = ap (λ (p : ℕ × List ℕ). season_onto p.1) e
