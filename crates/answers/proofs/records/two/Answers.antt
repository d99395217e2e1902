-- `answers::records::two` meets its contract. A number below zero is turned to -1 less it, which is its distance from -1. Assumes nothing.
use Prim.Native.Nat.{suc, ◌-◌}
use native.Mathlib.Omega.{arith}
use mathlib.Core.Bool.{true, false, false≢true}
use mathlib.Core.Path.{◌≡◌, refl, sym, ap, ◌∙◌}
use borrow.Author.Rules.{sfits_of}
use borrow.Author.Tests.{le-ltb}
use lib.IntN.{ℤ, pos, negsuc, ◌-ℤ◌}
use lib.Signed.{mag, lt_z}
use mir.Syntax.{w8}
use mir.Val.{SFits, to_z, of_z}
use mir.ValLaws.{to_z-of_z}
use Rattle.answers.specs.Numbers.{all_ones, twos_complement}
use Rattle.answers.proofs.records.two.Goals as goal
use Rattle.answers.proofs.records.two.Goals.{Then-z-lt0, Else-z-lt0}

turned : (z : ℤ) → lt_z z (pos 0) ≡ true → negsuc 0 -ℤ z ≡ pos (mag z)
turned (pos n) e = absurd (false≢true (sym (le-ltb n 0 (omega arith)) ∙ e))
turned (negsuc n) e = rw (le-ltb (suc n) 1 (omega arith)) (ap pos (omega arith))

low : (z : ℤ) → lt_z z (pos 0) ≡ true → twos_complement z ≡ all_ones - mag z
low (pos n) e = absurd (false≢true (sym (le-ltb n 0 (omega arith)) ∙ e))
low (negsuc n) e = refl

high : (z : ℤ) → lt_z z (pos 0) ≡ false → z ≡ pos (mag z)
high (pos n) e = refl
high (negsuc n) e = cc

-- what the local holds, and what the branch on it says of the parameter
held : (z : ℤ) → SFits w8 z → to_z w8 (of_z w8 z) ≡ z
held z h = to_z-of_z w8 z h

tested : {z y : ℤ} {b : _} → y ≡ z → lt_z y (pos 0) ≡ b → lt_z z (pos 0) ≡ b
tested e t = ap (λ (x : ℤ). lt_z x (pos 0)) (sym e) ∙ t

distance : (z : ℤ) → SFits w8 z → SFits w8 (pos (mag z))
distance z h = sfits_of h.sfits

-- Below zero: what the code turns the number to, and what the local then holds.
below : (c : Then-z-lt0) → lt_z c.args.z (pos 0) ≡ true
below c = tested (held _ c.ranges.z) c.if-z-lt0.true

turns : (c : Then-z-lt0) → let z = c.args.z in negsuc 0 -ℤ to_z w8 (of_z w8 z) ≡ pos (mag z)
turns c = rw (held _ c.ranges.z) (turned c.args.z (below c))

holds : (c : Then-z-lt0) → let z = c.args.z in to_z w8 (of_z w8 (negsuc 0 -ℤ to_z w8 (of_z w8 z))) ≡ pos (mag z)
holds c = rw (turns c) (held _ (distance _ c.ranges.z))

pub overflow_sub-result : goal.overflow_sub-result
overflow_sub-result c = rw (turns (goal.at.overflow_sub-result c).Then-z-lt0) (distance _ c.ranges.z)

pub overflow_cast-result : goal.overflow_cast-result
overflow_cast-result c = rw (holds (goal.at.overflow_cast-result c).Then-z-lt0) (tt, omega (arith, c.ranges.z.sfits))

pub overflow_sub-result-then-z-lt0 : goal.overflow_sub-result-then-z-lt0
overflow_sub-result-then-z-lt0 c = rw (holds (goal.at.overflow_sub-result-then-z-lt0 c).Then-z-lt0) (omega (arith, c.ranges.z.sfits))

pub returns-then-z-lt0 : goal.returns-then-z-lt0
returns-then-z-lt0 c = rw (holds (goal.at.returns-then-z-lt0 c).Then-z-lt0) (sym (low c.args.z (below (goal.at.returns-then-z-lt0 c).Then-z-lt0)))

-- Not below: it is its distance.
above : (c : Else-z-lt0) → let z = c.args.z in z ≡ pos (mag z)
above c = high c.args.z (tested (held _ c.ranges.z) c.if-z-lt0.false)

pub overflow_cast-result-2 : goal.overflow_cast-result-2
overflow_cast-result-2 c = rw (held _ c.ranges.z ∙ above (goal.at.overflow_cast-result-2 c).Else-z-lt0) (tt, omega (arith, c.ranges.z.sfits))

pub returns : goal.returns
returns c = rw (held _ c.ranges.z) (rw (above (goal.at.returns c).Else-z-lt0) refl)
