-- One more than the highest number that satisfies a test. Assumes nothing.
use Prim.Native.Nat.{ℕ, zero, suc, ◌+◌, ◌-◌, ◌≤◌, ◌<◌}
use native.Mathlib.Nat.{add-zero, not-suc-le-zero, le_of_suc-le-suc, eq-or-lt_of_le}
use native.Mathlib.Omega.{arith}
use mathlib.Core.Bool.{Bool, true, false, cond}
use mathlib.Core.Logic.{⊎_elim}
use mathlib.Core.Path.{◌≡◌, refl, ◌∙◌}
use Rattle.ledger_counts.specs.inner.Counts.{past_highest}

pub record Top (n : ℕ) (p : ℕ → Bool) (t : ℕ) : Type 0 where
  pub within : t ≤ n
  pub above : (i : ℕ) → t ≤ i → i < n → p i ≡ false
  pub last : (k : ℕ) → t ≡ suc k → p k ≡ true

pub top_of : (n : ℕ) (p : ℕ → Bool) → Top n p (past_highest n p)
unfolding past_highest
top_of zero p = record { within = omega arith; above = λ i h l. absurd (not-suc-le-zero l); last = λ k e. absurd (omega arith) }
top_of (suc n) p = by (p n) refl (top_of n p)
  where
    by : (b : Bool) → p n ≡ b → Top n p (past_highest n p) → Top (suc n) p (cond (p n) (suc n) (past_highest n p))
    by true e t =
        rw e (record {
          within = omega arith;
          above = λ i h l. absurd (omega arith);
          last = λ k q. let m : k ≡ n = omega arith in rw m e;
        })
    by false e t =
        let w = t.within in
        rw e (record {
          within = omega arith;
          above = λ i h l. ⊎_elim (λ (q : i ≡ n). rw q e) (λ (q : i < n). t.above i h q) (eq-or-lt_of_le (le_of_suc-le-suc l));
          last = λ k q. t.last k q;
        })

-- a scan from above: the test holds of the number below m, or fails there
pub past-here : (m : ℕ) (p : ℕ → Bool) → 0 < m → p (m - 1) ≡ true → past_highest m p ≡ m
unfolding past_highest
past-here zero p l e = absurd (not-suc-le-zero l)
past-here (suc n) p l e = let k : suc n - 1 ≡ n = omega arith in rw (rw k at e)

pub past_down : (m : ℕ) (p : ℕ → Bool) → 0 < m → p (m - 1) ≡ false → past_highest m p ≡ past_highest (m - 1) p
unfolding past_highest
past_down zero p l e = absurd (not-suc-le-zero l)
past_down (suc n) p l e = let k : suc n - 1 ≡ n = omega arith in rw (k, rw k at e)

pub past-none : (p : ℕ → Bool) → past_highest 0 p ≡ 0
unfolding past_highest
past-none p = refl

-- over k numbers of which the test fails
pub past_skip : (k m : ℕ) (p : ℕ → Bool) → ((i : ℕ) → m ≤ i → i < m + k → p i ≡ false) → past_highest (m + k) p ≡ past_highest m p
past_skip zero m p h = rw add-zero
past_skip (suc k) m p h =
    let below : m + suc k - 1 ≡ m + k = omega arith in
    past_down (m + suc k) p (omega arith) (h (m + suc k - 1) (omega arith) (omega arith)) ∙ rw below (past_skip k m p (λ i g l. h i g (omega arith)))
