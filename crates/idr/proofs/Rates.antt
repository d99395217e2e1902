-- The rates by their codes: one test over all codes, and the rule at each. Assumes nothing.
use Prim.Native.Nat.{ℕ, ◌*◌, ◌-◌, ◌/◌, ◌%◌, ◌^◌, ◌<◌}
use mathlib.Core.Bool.{Bool, true, false, cond, not}
use mathlib.Core.Path.{◌≡◌, refl}
use borrow.Author.Tests.{eqb-true}
use lib.Dec.{eqb, ltb}
use Rattle.std.specs.Option.{is_some, unwrap_or}
use Rattle.octets.specs.Octets.{all}
use Rattle.octets.proofs.Laws.{all-at}
use Rattle.idr.specs.inner.Listed.{listed}
use Rattle.idr.specs.Fields.{playback_rates, sampling_rates, rate_in}

-- The rate of a code by its two parts.
abbrev by_parts : ℕ → ℕ
by_parts code = cond (ltb 2 (code / 8)) 0 (cond (ltb 4 (code % 8)) 0 ((75000 - 12500 * (code / 8)) * 2 ^ (code % 8) % 2 ^ 32))

pub rate-by-parts : (code : ℕ) → code < 32 → by_parts code ≡ rate_in sampling_rates code
unfolding all rate_in
rate-by-parts code h = eqb-true _ _ (all-at 32 code (λ k. eqb (by_parts k) (rate_in sampling_rates k)) refl h)

-- The playback rates are the sampling rates at speed 0.
pub slowest : (code : ℕ) → code < 32 → cond (eqb (code % 8) 0) (rate_in sampling_rates code) 0 ≡ rate_in playback_rates code
unfolding all rate_in
slowest code h =
    eqb-true _ _
    (all-at 32 code (λ k. eqb (cond (eqb (k % 8) 0) (rate_in sampling_rates k) 0) (rate_in playback_rates k)) refl h)

all-false : (b : Bool) → not b ≡ true → b ≡ false
all-false true e = cc
all-false false e = refl

-- No listed rate is 0.
pub positive : (code : ℕ) → code < 32 → cond (ltb 2 (code / 8)) false (cond (ltb 4 (code % 8)) false (eqb (rate_in sampling_rates code) 0)) ≡ false
unfolding all rate_in
positive code h =
    all-false _ (all-at 32 code (λ k. not (cond (ltb 2 (k / 8)) false (cond (ltb 4 (k % 8)) false (eqb (rate_in sampling_rates k) 0)))) refl h)

-- ---- a rate, or none where it is 0

pub listed-or : (rate : ℕ) → unwrap_or (listed rate) 0 ≡ rate
listed-or rate = by (eqb rate 0) refl
  where
    by : (b : Bool) → eqb rate 0 ≡ b → unwrap_or (listed rate) 0 ≡ rate
    by true e = rw (eqb-true rate 0 e)
    by false e = rw e

pub listed-is : (rate : ℕ) → is_some (listed rate) ≡ not (eqb rate 0)
listed-is rate = by (eqb rate 0) refl
  where
    by : (b : Bool) → eqb rate 0 ≡ b → is_some (listed rate) ≡ not (eqb rate 0)
    by true e = rw e
    by false e = rw e
