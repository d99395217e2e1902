-- The lengths of names, each at most a slot's. Assumes nothing.
use Prim.Native.Nat.{ℕ, zero, suc, ◌≤◌, ◌<◌}
use native.Mathlib.Omega.{arith}
use mathlib.Core.Bool.{Bool, true, false}
use mathlib.Core.List.{List}
use mathlib.Core.Path.{◌≡◌, refl}
use borrow.Author.Tests.{eqb-true, eqb-false}
use lib.Dec.{eqb}
use lib.ListN.{length, get_or, set, replicate}
use lib.Seq.{get_or-set_same, get_or-set_other}
use Rattle.season_report_text.specs.Page.{name_size}

abbrev pub Short : List ℕ → Type 0
Short sizes = (j : ℕ) → get_or sizes j 0 ≤ name_size

pub short_none : (n : ℕ) → Short (replicate n 0)
short_none zero j = omega arith
short_none (suc n) zero = omega arith
short_none (suc n) (suc j) = short_none n j

pub short-more : (sizes : List ℕ) (i n : ℕ) → Short sizes → i < length sizes → n ≤ name_size → Short (set sizes i n)
short-more sizes i n known l h j = by (eqb j i) refl
  where
    by : (b : Bool) → eqb j i ≡ b → get_or (set sizes i n) j 0 ≤ name_size
    by true e = let same : j ≡ i = eqb-true j i e in rw (same, get_or-set_same sizes i n 0 l) h
    by false e = rw (get_or-set_other sizes i j n 0 (eqb-false j i e)) (known j)
