-- Different answers have different words. Assumes nothing.
use Prim.Native.Nat.{ℕ}
use native.Mathlib.Omega.{arith}
use mathlib.Core.List.{List, [], ◌∷◌, ◌++◌}
use mathlib.Core.Path.{◌≡◌, refl, sym, ap, ◌∙◌}
use lib.ListN.{length, length-append}
use Rattle.refusals.specs.Table.{number_of}
use Rattle.refusals.proofs.Laws.{number-positive, number-injective}
use Rattle.std.specs.Prelude.{Result, Ok, Err}
use Rattle.refusals.specs.declared.Refusal.{Refusal}
use Rattle.std.specs.Prelude.{Option, Some, None}
use Rattle.ledger_season.specs.Season.{counts_words, sheets_words, or_further, report_of, report_words, DifferentSeasons}
use Rattle.ledger_season.specs.declared.SheetCounts.{SheetCounts}
use Rattle.ledger_season.specs.declared.SeasonGap.{SeasonGap}
use Rattle.ledger_season.specs.declared.SeasonReport.{SeasonReport}
use Rattle.ledger_season.proofs.Read.{append-parts, length-sheets}

counts_of_lem : (ticked missing per-million : ℕ) → SheetCounts
counts_of_lem t m p = record { ticked = t; missing = m; per_million = p }

pub counts_same : (c d : SheetCounts) → counts_words c ≡ counts_words d → c ≡ d
unfolding counts_of_lem
counts_same c d e =
    let t : c.ticked ≡ d.ticked = cc in
    let m : c.missing ≡ d.missing = cc in
    let p : c.per_million ≡ d.per_million = cc in
    ap (λ x. counts_of_lem x c.missing c.per_million) t
    ∙ ap (λ x. counts_of_lem d.ticked x c.per_million) m
    ∙ ap (λ x. counts_of_lem d.ticked d.missing x) p

sheets-same : (cs ds : List SheetCounts) → length cs ≡ length ds → sheets_words cs ≡ sheets_words ds → cs ≡ ds
unfolding sheets_words
sheets-same [] [] l e = refl
sheets-same [] (d ∷ ds) l e = absurd (omega arith)
sheets-same (c ∷ cs) [] l e = absurd (omega arith)
sheets-same (c ∷ cs) (d ∷ ds) l e =
    let k = append-parts (counts_words c) (sheets_words cs) (counts_words d) (sheets_words ds) refl e in
    cc (counts_same c d k.0, sheets-same cs ds (omega arith) k.1)

gap_of_lem : (sheet r number : ℕ) → SeasonGap
gap_of_lem s r n = record { sheet = s; row = r; number = n }

gap-same : (g h : SeasonGap) → or_further (Some g) [] ≡ or_further (Some h) [] → g ≡ h
unfolding gap_of_lem
gap-same g h e =
    let a : g.sheet ≡ h.sheet = cc in
    let b : g.row ≡ h.row = cc in
    let c : g.number ≡ h.number = cc in
    ap (λ x. gap_of_lem x g.row g.number) a ∙ ap (λ x. gap_of_lem h.sheet x g.number) b ∙ ap (λ x. gap_of_lem h.sheet h.row x) c

gaps-same : (g h : Option SeasonGap) → or_further g [] ≡ or_further h [] → g ≡ h
gaps-same None None e = refl
gaps-same None (Some h) e = cc
gaps-same (Some g) None e = cc
gaps-same (Some g) (Some h) e = ap Some (gap-same g h e)

report-of : ℕ → List SheetCounts → SheetCounts → Option SeasonGap → SeasonReport
report-of n cs t g = record { count = n; sheets = cs; total = t; gap = g }

reports-same : (r t : SeasonReport) → length r.sheets ≡ length t.sheets
    → r.count ∷ sheets_words r.sheets ++ counts_words r.total ++ or_further r.gap []
    ≡ t.count ∷ sheets_words t.sheets ++ counts_words t.total ++ or_further t.gap [] → r ≡ t
unfolding report-of
reports-same r t long same =
    let counts : r.count ≡ t.count = cc in
    let body : sheets_words r.sheets ++ counts_words r.total ++ or_further r.gap []
    ≡ sheets_words t.sheets ++ counts_words t.total ++ or_further t.gap [] = cc in
    let words_long : length (sheets_words r.sheets) ≡ length (sheets_words t.sheets) = omega (arith, length-sheets r.sheets, length-sheets t.sheets) in
    let front_long : length (sheets_words r.sheets ++ counts_words r.total) ≡ length (sheets_words t.sheets ++ counts_words t.total) =
    rw (length-append, length-append, words_long) in
    let parts = append-parts _ _ _ _ front_long body in
    let front = append-parts _ _ _ _ words_long parts.0 in
    let s = sheets-same r.sheets t.sheets long front.0 in
    let k = counts_same r.total t.total front.1 in
    let g = gaps-same r.gap t.gap parts.1 in
    ap (λ v. report-of v r.sheets r.total r.gap) counts
    ∙ ap (λ v. report-of t.count v r.total r.gap) s
    ∙ ap (λ v. report-of t.count t.sheets v r.gap) k
    ∙ ap (λ v. report-of t.count t.sheets t.total v) g

pub one_answer : DifferentSeasons
one_answer words a b x y = by a b (ap (λ p. p.0) x ∙ sym (ap (λ p. p.0) y)) (ap (λ p. p.1) x ∙ sym (ap (λ p. p.1) y))
  where
    by : (a b : Result SeasonReport Refusal) → length (report_of a).sheets ≡ length (report_of b).sheets → report_words a ≡ report_words b → a ≡ b
    by (Ok r) (Ok t) long same = ap Ok (reports-same r t long (cc))
    by (Ok r) (Err q) long same = let zero : number_of q ≡ 0 = cc in absurd (number-positive q zero)
    by (Err p) (Ok t) long same = let zero : number_of p ≡ 0 = cc in absurd (number-positive p zero)
    by (Err p) (Err q) long same = let number : number_of p ≡ number_of q = cc in ap Err (number-injective p q number)
