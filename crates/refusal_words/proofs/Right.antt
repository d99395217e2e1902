-- What holds of the table of texts: tests that antt computes, over its 62 entries. Assumes nothing.
use Prim.Native.Nat.{ℕ, ◌≤◌, ◌<◌}
use mathlib.Core.Bool.{Bool, true, false, ◌||◌, false≢true}
use mathlib.Core.List.{List}
use mathlib.Core.Logic.{◌≢◌}
use mathlib.Core.Path.{◌≡◌, refl, sym, ap, ◌∙◌}
use borrow.Author.Tests.{leb-true, eqb-true, ltb-true, ltb-false}
use lib.Dec.{eqb, leb, ltb, lit≤}
use lib.ListN.{length}
use Rattle.octets.specs.Octets.{all}
use Rattle.octets.proofs.Laws.{all-at}
use Rattle.refusals.specs.Table.{number_of}
use Rattle.refusals.specs.declared.Refusal.{Refusal}
use Rattle.refusals.proofs.Laws.{number-injective, number-positive}
use Rattle.refusal_words.specs.Texts.{unknown, table, text_of}
use Rattle.refusal_words.specs.Laws.{TextsRight}
use Rattle.refusal_words.proofs.Same.{same, same-eq, place_of, get_d_past}
use Rattle.refusal_words.proofs.Found.{found, refusal_of}

-- Past the table's end.
pub past-table : (n : ℕ) → 62 ≤ n → text_of n ≡ unknown
unfolding text_of table
past-table n h = get_d_past table n unknown h

-- An entry's text says that no refusal has the number, or a refusal has it.
abbrev is_told : ℕ → Bool
is_told n = eqb (number_of (refusal_of n)) n || same (text_of n) unknown

all_told : all 62 is_told ≡ true
unfolding all text_of table same refusal_of
all_told = refl

either : (a b : Bool) → (a || b) ≡ true → a ≡ false → b ≡ true
either true b e f = absurd (false≢true (sym f))
either false b e f = e

others-in : (n : ℕ) → ((r : Refusal) → number_of r ≢ n) → n < 62 → text_of n ≡ unknown
others-in n none h = by (eqb (number_of (refusal_of n)) n) refl
  where
    by : (b : Bool) → eqb (number_of (refusal_of n)) n ≡ b → text_of n ≡ unknown
    by true e = absurd (none (refusal_of n) (eqb-true _ _ e))
    by false e = same-eq _ _ (either _ _ (all-at 62 n is_told all_told h) e)

others : (n : ℕ) → ((r : Refusal) → number_of r ≢ n) → text_of n ≡ unknown
others n none = by (ltb n 62) refl
  where
    by : (b : Bool) → ltb n 62 ≡ b → text_of n ≡ unknown
    by true e = others-in n none (ltb-true n 62 e)
    by false e = past-table n (ltb-false n 62 e)

first : place_of unknown table ≡ 0
unfolding place_of table same
first = refl

unfoldable is_short : ℕ → Bool
is_short n = leb (length (text_of n)) 199

all_short : all 62 is_short ≡ true
unfolding all is_short text_of table
all_short = refl

short-in : (n : ℕ) → n < 62 → length (text_of n) ≤ 199
unfolding is_short
short-in n h = leb-true _ _ (all-at 62 n is_short all_short h)

short : (n : ℕ) → length (text_of n) ≤ 199
short n = by (ltb n 62) refl
  where
    by : (b : Bool) → ltb n 62 ≡ b → length (text_of n) ≤ 199
    by true e = short-in n (ltb-true n 62 e)
    by false e = rw (past-table n (ltb-false n 62 e)) (lit≤ tt)

pub texts-right : TextsRight
texts-right =
    record {
      different = λ r s e. number-injective r s (sym (found r) ∙ ap (λ (t : List ℕ). place_of t table) e ∙ found s);
      told = λ r e. number-positive r (sym (found r) ∙ ap (λ (t : List ℕ). place_of t table) e ∙ first);
      others = others;
      short = short;
    }
