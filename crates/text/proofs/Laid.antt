-- Text put behind text. Assumes nothing.
use Prim.Native.Nat.{ℕ, ◌+◌, ◌≤◌, ◌<◌}
use native.Mathlib.Omega.{arith}
use mathlib.Core.Bool.{Bool, true, false}
use mathlib.Core.List.{List, [], ◌∷◌, ◌++◌, append-nil}
use mathlib.Core.Path.{◌≡◌, refl, sym, ap, ◌∙◌}
use borrow.Author.Tests.{leb-true, leb-false}
use lib.Dec.{leb}
use lib.ListN.{length, take, drop, set, length-append, drop_of_length-le}
use lib.Seq.{take_at, take_all, length-take-le}
use Rattle.octets.specs.Octets.{put}
use Rattle.octets.proofs.Laws.{put-none, length-put}
use Rattle.octets.proofs.Puts.{put_next, set-put}
use Rattle.text.specs.Text.{Puts}

pub nothing : (a : List ℕ) (at : ℕ) → Puts a a at at []
nothing a at = record { bytes = sym (put-none a at); end = omega arith }

pub then : {a b c : List ℕ} {at r q : ℕ} {s t : List ℕ} → Puts a b at r s → Puts b c r q t → q ≤ length a → Puts a c at q (s ++ t)
then {a} {b} {c} {at} {r} {q} {s} {t} x y h =
    record {
      bytes = put_next a at s r t x.bytes y.bytes (sym x.end) (omega (arith, y.end));
      end = rw length-append (omega (arith, x.end, y.end));
    }

-- one byte more
pub then-byte : {a b : List ℕ} {at r : ℕ} {s : List ℕ} (x : ℕ) → Puts a b at r s → r < length a → Puts a (set b r x) at (r + 1) (s ++ (x ∷ []))
then-byte {a} {b} {at} {r} {s} x p h =
    let l : length b ≡ length a = ap length p.bytes ∙ length-put a at s (omega (arith, p.end)) in
    then p (record { bytes = set-put b r x (omega arith); end = refl }) (omega arith)

-- the text that is laid out grows by what is put behind it
pub grown : {old new : List ℕ} {at r : ℕ} {t : List ℕ} → Puts old new at r t → take r new ≡ take at old ++ t
unfolding put
grown {old} {new} {at} {r} {t} p = by (leb at (length old)) refl
  where
    by : (b : Bool) → leb at (length old) ≡ b → take r new ≡ take at old ++ t
    by true e =
        let l = length-take-le at old (leb-true at (length old) e) in
        rw (p.bytes, take_at (take at old ++ t) (drop (at + length t) old) r (length-append (take at old) t ∙ omega (arith, l, p.end)))
    by false e =
        let h = leb-false at (length old) e in
        let none : drop (at + length t) old ≡ [] = drop_of_length-le old {i = at + length t} (omega arith) in
        let l : length (take at old ++ t) ≤ r = rw (length-append, take_all at old (omega arith)) (omega (arith, p.end)) in
        rw (p.bytes, none, append-nil, take_all r (take at old ++ t) l)
