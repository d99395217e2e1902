-- The lines of a tape, from a place on. Assumes nothing.
use Prim.Native.Nat.{ℕ, zero, suc, ◌+◌, ◌≤◌, ◌<◌}
use native.Mathlib.Omega.{arith}
use mathlib.Core.Bool.{Bool, true, false, cond}
use mathlib.Core.List.{List, [], ◌++◌}
use mathlib.Core.Path.{◌≡◌, refl, ap}
use lib.ListN.{length, take, drop, length-take, length-drop}
use Rattle.idr.specs.Words.{record_size}
use Rattle.idr.specs.Read.{accepts}
use Rattle.idr.proofs.Judging.{accepted-length, none-accepts}
use Rattle.idr_list_text.specs.Listing.{line_of, lines_in, lines_from}

pub whole : (r : List ℕ) → accepts r ≡ true → length r ≡ record_size
whole r e = accepted-length r (none-accepts r e)

long : (s : List ℕ) → accepts (take record_size s) ≡ true → record_size ≤ length s
long s e = let l = whole (take record_size s) e in omega (arith, length-take record_size s)

-- a bound over the count of the bytes changes nothing
enough : (f g place : ℕ) (s : List ℕ) → length s < f → length s < g → lines_in f place s ≡ lines_in g place s
unfolding lines_in
enough zero g place s hf hg = absurd (omega arith)
enough (suc f) zero place s hf hg = absurd (omega arith)
enough (suc f) (suc g) place s hf hg =
    by (accepts (take record_size s)) refl
    (λ (h : record_size ≤ length s).
    let less : length (drop record_size s) < f = simp length-drop (omega arith) in
    enough f g (place + record_size) (drop record_size s) less (simp length-drop (omega arith)))
  where
    by : (b : Bool) → accepts (take record_size s) ≡ b
        → (record_size ≤ length s → lines_in f (place + record_size) (drop record_size s) ≡ lines_in g (place + record_size) (drop record_size s))
        → line_of place (take record_size s) ++ cond b (lines_in f (place + record_size) (drop record_size s)) []
        ≡ line_of place (take record_size s) ++ cond b (lines_in g (place + record_size) (drop record_size s)) []
    by true e less = ap (λ (t : List ℕ). line_of place (take record_size s) ++ t) (less (long s e))
    by false e less = refl

-- the line of what stands at the place, and the lines past it where that is a record
pub lines_next : (place : ℕ) (s : List ℕ)
    → lines_from place s ≡ line_of place (take record_size s) ++ cond (accepts (take record_size s)) (lines_from (place + record_size) (drop record_size s)) []
unfolding lines_from lines_in
lines_next place s = by (accepts (take record_size s)) refl
  where
    by : (b : Bool) → accepts (take record_size s) ≡ b
        → line_of place (take record_size s) ++ cond b (lines_in (length s) (place + record_size) (drop record_size s)) []
        ≡ line_of place (take record_size s) ++ cond b (lines_from (place + record_size) (drop record_size s)) []
    by true e =
        let l = long s e in
        ap (λ (t : List ℕ). line_of place (take record_size s) ++ t)
        (enough (length s) (suc (length (drop record_size s))) (place + record_size) (drop record_size s) (simp length-drop (omega arith)) (omega arith))
    by false e = refl
