-- The laws of `specs/Laws.antt`, and a part with one number more. Assumes nothing.
use Prim.Native.Nat.{ℕ, suc, ◌+◌, ◌-◌, ◌≤◌, ◌<◌}
use native.Mathlib.Nat.{add-zero}
use native.Mathlib.Omega.{arith}
use mathlib.Core.Bool.{Bool}
use mathlib.Core.List.{List, [], ◌∷◌, ◌++◌, append_assoc, append-nil}
use mathlib.Core.Path.{◌≡◌, sym, ◌∙◌}
use lib.IntN.{ℤ, pos}
use lib.ListN.{length, take, drop, get_or, length-drop}
use lib.Seq.{take-length, take-add, drop-cons, drop-drop, length-take-le}
use Rattle.rsr_samples_text.specs.Text.{number_text, text_at, samples_text, part_text}
use Rattle.text.proofs.Laid.{grown}
use Rattle.rsr_samples_text.specs.Part.{Calls, begins, lays}
use Rattle.rsr_samples_text.specs.Laws.{PartsJoin, WholePart, Promise}

text-append : (raw : Bool) (i : ℕ) (xs ys : List ℤ) → text_at raw i (xs ++ ys) ≡ text_at raw i xs ++ text_at raw (i + length xs) ys
unfolding text_at
text-append raw i [] ys = rw add-zero
text-append raw i (x ∷ xs) ys =
    let e : suc i + length xs ≡ i + suc (length xs) = omega arith in
    rw (text-append raw (suc i) xs ys, e, append_assoc)

pub parts_join : PartsJoin
unfolding part_text
parts_join raw zs from mid upto h k l =
    let n : upto - from ≡ mid - from + (upto - mid) = omega arith in
    let d : from + (mid - from) ≡ mid = omega arith in
    let t : length (take (mid - from) (drop from zs)) ≡ mid - from = length-take-le (mid - from) (drop from zs) (rw length-drop (omega arith)) in
    rw (n, take-add, drop-drop, d, text-append, t, d)

pub whole_part : WholePart
unfolding part_text samples_text
whole_part raw zs = let e : length zs - 0 ≡ length zs = omega arith in rw (e, take-length)

-- Nothing yet, and one number more.
pub part_none : (raw : Bool) (zs : List ℤ) (from : ℕ) → part_text raw zs from from ≡ []
unfolding part_text text_at
part_none raw zs from = let e : from - from ≡ 0 = omega arith in rw e

part-one : (raw : Bool) (zs : List ℤ) (i : ℕ) → i < length zs → part_text raw zs i (i + 1) ≡ number_text raw i (get_or zs i (pos 0))
unfolding part_text text_at
part-one raw zs i l = let e : i + 1 - i ≡ 1 = omega arith in rw (e, drop-cons zs i (pos 0), append-nil)

pub part-more : (raw : Bool) (zs : List ℤ) (from i : ℕ) → from ≤ i → i < length zs
    → part_text raw zs from i ++ number_text raw i (get_or zs i (pos 0)) ≡ part_text raw zs from (i + 1)
part-more raw zs from i h l = rw (← part-one raw zs i l) (parts_join raw zs from i (i + 1) h (omega arith) (omega arith))

-- ---- calls

so_far : {raw : Bool} {zs : List ℤ} {upto : ℕ} {text out : List ℕ} → Calls raw zs upto text out → text ≡ part_text raw zs 0 upto
so_far {raw} {zs} begins = sym (part_none raw zs 0)
so_far {raw} {zs} (lays {from} {text} {old} {new} {r} calls one) =
    rw (so_far calls, grown one.puts) (parts_join raw zs 0 from r.upto (omega arith) one.least (omega (arith, one.least, one.most)))

pub promise : Promise
promise raw zs text out calls = so_far calls ∙ whole_part raw zs
