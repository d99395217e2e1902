-- The sizes that the table of rates lists fill a half word. Assumes nothing.
use Rattle.std.proofs.Common.{◌≡◌, ℕ, ◌^◌, Bool, true, false, ◌&&◌, eqb, ltb, leb, List, [], ◌∷◌, refl, ltb-true, eqb-true, leb-true}
use mathlib.Core.Bool.{false≢true}
use Rattle.laws.proofs.Bools.{and_split}
use Rattle.sfdu_samples.specs.declared.rates.Listed.{Listed}
use Rattle.sfdu_samples.specs.Rates.{table, among, is_listed}
use Rattle.sfdu_samples.specs.Packing.{per_half, half_sample_word}
use Rattle.sfdu_samples.specs.inner.Widths.{IsWidth}

-- Samples of w bits fill a half word, as a test.
abbrev fills_half : ℕ → Bool
fills_half w = ltb 0 w && leb w 16 && eqb ((2 ^ w) ^ per_half w) half_sample_word

is-width : (w : ℕ) → fills_half w ≡ true → IsWidth w
is-width w e =
    let a = and_split (ltb 0 w && leb w 16) (eqb ((2 ^ w) ^ per_half w) half_sample_word) e in
    let b = and_split (ltb 0 w) (leb w 16) a.0 in
    record { some = ltb-true _ _ b.0; most = leb-true _ _ b.1; whole = eqb-true _ _ a.1 }

abbrev each_fills : List Listed → Bool
each_fills [] = true
each_fills (row ∷ rows) = fills_half row.size && each_fills rows

among-width : (size rate : ℕ) (rows : List Listed) → each_fills rows ≡ true → among size rate rows ≡ true → fills_half size ≡ true
unfolding among
among-width size rate [] t e = absurd (false≢true e)
among-width size rate (row ∷ rows) t e =
    by (eqb row.size size) refl (among-width size rate rows (and_split (fills_half row.size) (each_fills rows) t).1)
  where
    by : (b : Bool) → eqb row.size size ≡ b → (among size rate rows ≡ true → fills_half size ≡ true) → fills_half size ≡ true
    by true q later = rw (eqb-true row.size size q) at (and_split (fills_half row.size) (each_fills rows) t).0
    by false q later = later (rw q at e)

pub listed-width : (size rate : ℕ) → is_listed size rate ≡ true → IsWidth size
unfolding table
listed-width size rate e = is-width size (among-width size rate table refl e)
