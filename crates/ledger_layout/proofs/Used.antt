-- Searches of the rows by their used words are searches of the places: the count, the lowest free one, the row with a key, the first gap.
-- Assumes nothing.
use Prim.Native.Nat.{ℕ, zero, suc, ◌+◌, ◌≤◌, ◌<◌, zero-le, suc-le-suc}
use native.Mathlib.Nat.{zero-add, zero-lt-suc}
use native.Mathlib.Omega.{arith}
use mathlib.Core.Bool.{Bool, true, false, cond, not}
use mathlib.Core.List.{List, [], ◌∷◌}
use mathlib.Core.Path.{◌≡◌, refl, ap, ◌∙◌}
use lib.ListN.{length, get_or, set}
use Rattle.ledger_model.specs.Positions.{Positions}
use Rattle.ledger_model.specs.Book.{Place, free, row, is_free, with_ticks}
use Rattle.ledger_sheet.specs.Sheet.{count}
use Rattle.ledger_layout.specs.Layout.{count_used}

-- u says which of the places are used
abbrev pub Words : (ℕ → Bool) → List Place → Type 0
Words u ps = (i : ℕ) → i < length ps → u i ≡ not (is_free (get_or ps i free))

further : (u : ℕ → Bool) (p : Place) (ps : List Place) → Words u (p ∷ ps) → Words (λ i. u (suc i)) ps
further u p ps w i l = w (suc i) (suc-le-suc l)

-- ---- the count

count-front : (n : ℕ) (p : ℕ → Bool) → count (suc n) p ≡ cond (p 0) 1 0 + count n (λ i. p (suc i))
unfolding count
count-front zero p = omega arith
count-front (suc n) p = rw (count-front n p) (omega arith)

pub count_law : (ps : List Place) (u : ℕ → Bool) → Words u ps → count (length ps) u ≡ count_used ps
unfolding count_used count
count_law [] u w = refl
count_law (free ∷ ps) u w =
    count-front (length ps) u ∙ rw (w 0 (zero-lt-suc _), zero-add) (count_law ps (λ i. u (suc i)) (further u free ps w))
count_law (row key first ticks ∷ ps) u w =
    count-front (length ps) u ∙ rw (w 0 (zero-lt-suc _), count_law ps (λ i. u (suc i)) (further u (row key first ticks) ps w)) (omega arith)

pub count-in : (ps : List Place) → count_used ps ≤ length ps
unfolding count_used
count-in [] = zero-le
count-in (free ∷ ps) = let h = count-in ps in omega arith
count-in (row key first ticks ∷ ps) = suc-le-suc (count-in ps)

-- a place with another set
pub count_same : (ps : List Place) (r : ℕ) (t : Positions) → count_used (set ps r (with_ticks t (get_or ps r free))) ≡ count_used ps
unfolding count_used
count_same [] r t = refl
count_same (free ∷ ps) zero t = refl
count_same (row key first ticks ∷ ps) zero t = refl
count_same (free ∷ ps) (suc r) t = count_same ps r t
count_same (row key first ticks ∷ ps) (suc r) t = ap suc (count_same ps r t)

-- a free place that is filled
pub count-more : (ps : List Place) (r key first : ℕ) (ticks : Positions) → r < length ps → is_free (get_or ps r free) ≡ true
    → count_used (set ps r (row key first ticks)) ≡ suc (count_used ps)
unfolding count_used
count-more [] r key first ticks l f = absurd (omega arith)
count-more (free ∷ ps) zero key first ticks l f = refl
count-more (row k g t ∷ ps) zero key first ticks l f = cc
count-more (free ∷ ps) (suc r) key first ticks l f = count-more ps r key first ticks (omega arith) f
count-more (row k g t ∷ ps) (suc r) key first ticks l f = ap suc (count-more ps r key first ticks (omega arith) f)

-- a used place that is freed
pub count_less : (ps : List Place) (r : ℕ) → is_free (get_or ps r free) ≡ false → count_used ps ≡ suc (count_used (set ps r free))
unfolding count_used
count_less [] r f = cc
count_less (free ∷ ps) zero f = cc
count_less (row key first ticks ∷ ps) zero f = refl
count_less (free ∷ ps) (suc r) f = count_less ps r f
count_less (row key first ticks ∷ ps) (suc r) f = ap suc (count_less ps r f)
