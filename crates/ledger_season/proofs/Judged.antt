-- The refusals of a season. Assumes nothing.
use Prim.Native.Nat.{ℕ, ◌*◌, ◌%◌, ◌≤◌, ◌<◌}
use native.Mathlib.Nat.{div-mul-le_self}
use native.Mathlib.Omega.{arith}
use mathlib.Core.Bool.{Bool, true, false, not, ◌||◌, false≢true}
use mathlib.Core.List.{List, [], ◌∷◌}
use mathlib.Core.Path.{◌≡◌, refl, sym, ap, ◌∙◌}
use lib.Dec.{eqb, ltb}
use lib.ListN.{length}
use borrow.Author.Tests.{ltb-false}
use Rattle.std.specs.Prelude.{Err}
use Rattle.refusals.specs.declared.Refusal.{Refusal}
use Rattle.refusals.specs.Table.{number_of}
use Rattle.refusals.proofs.Laws.{number-positive}
use Rattle.refusals.specs.Judge.{Rule, ◌when◌, judge, verdict}
use Rattle.octets.proofs.Laws.{Bytes, all-at}
use Rattle.octets.proofs.Parts.{bytes-part}
use Rattle.ledger_model.specs.Book.{fresh}
use Rattle.ledger_sheet.specs.Sheet.{sheet_size}
use Rattle.ledger_layout.specs.Layout.{book_of}
use Rattle.ledger_layout.proofs.Read.{book-fine}
use Rattle.octets.proofs.Lists.{get_or-table}
use Rattle.ledger_season.specs.Report.{most_sheets, key_in_two, three, each_sheet, in_all, per_million, season_gap_from, report}
use Rattle.ledger_season.specs.Season.{sheet_at, sheet_count, books_to, books, right_to, season_rules, season, sheets_words, report_words}
use Rattle.ledger_season.specs.inner.Gathered.{keys_of_all, distinct}
use Rattle.ledger_season.proofs.Sheets.{length-books}
use Rattle.ledger_season.proofs.Keys.{keys-law, book-distinct}

-- As many sheets as fit, and not too many.
pub record Fit (s : List ℕ) : Type 0 where
  pub few : sheet_count s ≤ most_sheets
  pub within : sheet_size * sheet_count s ≤ length s

or_right : (a b : Bool) → (a || b) ≡ false → b ≡ false
or_right true b e = cc
or_right false b e = e

abbrev pub wrong_length : List ℕ → Bool
wrong_length s = not (eqb (length s % sheet_size) 0) || ltb most_sheets (sheet_count s)

pub fit : (s : List ℕ) → wrong_length s ≡ false → Fit s
fit s e = record { few = ltb-false _ _ (or_right (not (eqb (length s % sheet_size) 0)) _ e); within = omega (arith, div-mul-le_self (length s) sheet_size) }

-- of right sheets, no key twice means no key in two
two-sheets : (s : List ℕ) (n : ℕ) → Bytes s → right_to s n ≡ true → distinct (keys_of_all (books_to s n)) ≡ not (key_in_two (books_to s n))
unfolding right_to books_to
two-sheets s n bytes e =
    keys-law (books_to s n) (λ k l.
    let inside : k < n = omega (arith, length-books s n) in
    let sheet = bytes-part s (sheet_size * k) sheet_size bytes in
    rw (get_or-table n (λ j. book_of (sheet_at s j)) k fresh inside) (book-distinct _ (book-fine (sheet_at s k) sheet (all-at n k _ e inside))))

swap : (a b : Bool) → not a ≡ b → a ≡ not b
swap true b e = ap not e
swap false b e = ap not e

pub keys-judged : (s : List ℕ) (b : Bool) → Bytes s → right_to s (sheet_count s) ≡ true → distinct (keys_of_all (books s)) ≡ b → key_in_two (books s) ≡ not b
keys-judged s b bytes e d = swap (key_in_two (books s)) b (sym (two-sheets s (sheet_count s) bytes e) ∙ d)

-- ---- from the verdict to the answer

module _ (a b t : Bool) (nothing answer : List ℕ) where
  rules : List (Rule ℕ)
  rules = (42 when a) ∷ (20 when b) ∷ (41 when t) ∷ []

  given : List ℕ
  given = judge (λ number. number ∷ nothing) rules answer

by-refusal : (a b t : Bool) (nothing answer : List ℕ) (q : ℕ) → (q ≡ 0 → ⊥) → q ∷ [] ≡ verdict (rules a b t nothing answer) ∷ []
    → q ∷ nothing ≡ given a b t nothing answer
unfolding rules given judge
by-refusal true b t nothing answer q p e = cc
by-refusal false true t nothing answer q p e = cc
by-refusal false false true nothing answer q p e = cc
by-refusal false false false nothing answer q p e = absurd (p (cc))

by-none : (a b t : Bool) (nothing answer : List ℕ) → 0 ∷ [] ≡ verdict (rules a b t nothing answer) ∷ [] → (a ≡ false) × (answer ≡ given a b t nothing answer)
unfolding rules given judge
by-none true b t nothing answer e = absurd (false≢true cc)
by-none false true t nothing answer e = absurd (false≢true cc)
by-none false false true nothing answer e = absurd (false≢true cc)
by-none false false false nothing answer e = (refl, refl)

-- a refused season reports on no sheet
no-sheet : (why : Refusal) → report_words (Err why) ≡ number_of why ∷ report []
unfolding report sheets_words each_sheet three in_all per_million season_gap_from
no-sheet why = refl

pub season-refused : (s : List ℕ) (why : Refusal) → number_of why ∷ [] ≡ verdict (season_rules s) ∷ [] → report_words (Err why) ≡ season s
unfolding season rules given
season-refused s why e =
    no-sheet why
    ∙ by-refusal (wrong_length s) (not (right_to s (sheet_count s))) (key_in_two (books s)) (report []) (0 ∷ report (books s))
    (number_of why) (number-positive why) e

pub season-accepted : (s : List ℕ) → 0 ∷ [] ≡ verdict (season_rules s) ∷ [] → Fit s × (0 ∷ report (books s) ≡ season s)
unfolding season rules given
season-accepted s e =
    let k = by-none (wrong_length s) (not (right_to s (sheet_count s))) (key_in_two (books s)) (report []) (0 ∷ report (books s)) e in
    (fit s k.0, k.1)
