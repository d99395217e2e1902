-- What becomes of a record, by what it is judged to be. Assumes nothing.
use Rattle.std.specs.Prelude.{Result}
use Rattle.std.proofs.Common.{◌≡◌, ℕ, ◌+◌, ◌≤◌, Bool, true, false, cond, eqb, ◌≢◌, List, [], ◌∷◌, length, get_or, take, ℤ, sym, refl, ap, ◌∙◌, arith}
use Rattle.std.proofs.Common.{length-take-le, ne_eqb, eqb-true}
use mathlib.Core.Bool.{false≢true}
use Rattle.refusals.proofs.Judged.{none-applies}
use Rattle.sfdu.specs.Read.{record_length, read_rules, accepts, in_stream}
use Rattle.sfdu.proofs.Accepted as record_of
use Rattle.sfdu_headers.specs.RsrRecord.{kind_rules}
use Rattle.sfdu_headers.proofs.Rules.{none-of-both}
use Rattle.sfdu_samples.specs.Calls.{unpacking}
use Rattle.sfdu_samples.proofs.Judged.{unpacks}
use Rattle.streaming.specs.declared.system.Failure.{Failure}
use Rattle.streaming.specs.Window.{Told}
use Rattle.streaming.specs.Failure.{says_failed, got_of}
use Rattle.rsr_samples.specs.Step.{Step}
use Rattle.rsr_samples.specs.Step as S
use Rattle.streaming.specs.Window.{window_size, is_over, telling, stop_of}
use Rattle.rsr_samples.specs.Judging.{Unpacked, Samples, Stopped, most_numbers, judged_by, judging}
use Rattle.rsr_samples.specs.Parts.{OfOne, Came, numbers_of, step_by, step_of, Takes}
use Rattle.rsr_samples.specs.inner.Written.{Writes}
use Rattle.rsr_samples.proofs.Numbers.{first-numbers}
use Rattle.rsr_samples.proofs.Stops.{accepted-words, long-enough}

-- ---- an accepted record

module _ (place : ℕ) (s : List ℕ) (old new : List ℤ) (n : ℕ) (e : (Samples n, new) ≡ judging place s old) where
  sampled : (unpacking s old).0 ≡ 0 ∷ n ∷ []
  unfolding judging
  sampled = by (eqb (get_or (unpacking s old).0 0 0) 0) refl
    where
      is : Samples n ≡ judged_by place s (unpacking s old).0
      is = ap (λ (p : Unpacked × List ℤ). p.0) e

      by : (b : Bool) → eqb (get_or (unpacking s old).0 0 0) 0 ≡ b → (unpacking s old).0 ≡ 0 ∷ n ∷ []
      by true q =
          let words = accepted-words s old (eqb-true _ _ q) in
          let same : Samples n ≡ Samples (length (numbers_of s)) = is ∙ rw words in
          cc
      by false q = let other = rw q at is in absurd (false≢true cc)

  pub numbers : take n new ≡ numbers_of s
  unfolding judging
  numbers = ap (λ (p : Unpacked × List ℤ). take n p.1) e ∙ first-numbers s old n sampled

  pub room : n ≤ length old
  room = let u = unpacks s old n sampled in omega (arith, u.count, u.room)

  -- all the bytes that were read are the record's
  pub whole : (have : ℕ) → length s ≡ have → (20 ≤ have → have ≤ record_length s) → have ≡ record_length s
  unfolding accepts
  whole have l one =
      let none = (none-of-both (read_rules s) (kind_rules s) (unpacks s old n sampled).headers).0 in
      let a = record_of.accepted s (none-applies (read_rules s) none) in
      omega (arith, a.label, a.whole, one (omega (arith, a.label)))

-- ---- a record that is stopped at

never-35 : (place : ℕ) (s : List ℕ) (old : List ℤ) (stop : Told) (new : List ℤ) → length s ≤ window_size → length old ≡ most_numbers
    → (Stopped stop, new) ≡ judging place s old → stop.number ≢ 35
unfolding judging stop_of in_stream
never-35 place s old stop new short room e is =
    by (unpacking s old).0 (eqb (get_or (unpacking s old).0 0 0) 0) refl (ap (λ (p : Unpacked × List ℤ). p.0) e) (long-enough s old short room)
  where
    told : (words : List ℕ) (b : Bool) → stop ≡ cond b (record { number = 17; beside = 0 }) (telling (in_stream place words)) → get_or words 0 0 ≡ 35
    told words true q = absurd (omega (arith, ap (λ (t : Told). t.number) q))
    told [] false q = absurd (omega (arith, ap (λ (t : Told). t.number) q))
    told (n ∷ []) false q = sym (ap (λ (t : Told). t.number) q) ∙ is
    told (n ∷ m ∷ rest) false q = sym (ap (λ (t : Told). t.number) q) ∙ is

    by : (words : List ℕ) (b : Bool) → eqb (get_or words 0 0) 0 ≡ b → Stopped stop ≡ judged_by place s words → get_or words 0 0 ≢ 35 → ⊥
    by words true q j other = let z : Stopped stop ≡ Samples (get_or words 1 0) = j ∙ rw q in false≢true cc
    by words false q j other =
        let z : Stopped stop ≡ Stopped (stop_of place s words) = j ∙ rw q in
        let same : stop ≡ stop_of place s words = cc in
        other (told words (is_over s words) same)

-- ---- the steps

module _ (raw : Bool) (place : ℕ) (piece : Result ℕ Failure) (window : List ℕ) (old : List ℤ) (out : List ℕ) where
  -- not gone past, nothing is said of calls
  kept : (r : Step) → r ≡ step_of true place piece window old → ((next : ℕ) → r ≡ S.Passed next → ⊥)
      → ((stop : Told) → r ≡ S.Stopped stop → stop.number ≢ 35) → Takes raw place piece window old out r
  kept r e never short = record { written = true; step = e; came = λ next p. absurd (never next p); never-35 = short }

  pub unread : says_failed piece ≡ true → Takes raw place piece window old out S.Unread
  unfolding step_of
  unread f = kept S.Unread (rw f) (λ next p. absurd (false≢true cc)) (λ stop p. absurd (false≢true cc))

  module _ (f : says_failed piece ≡ false) where
    pub ended : (got_of piece) ≡ 0 → Takes raw place piece window old out S.Ended
    unfolding step_of
    ended z = kept S.Ended (rw (f, z)) (λ next p. absurd (false≢true cc)) (λ stop p. absurd (false≢true cc))

    module _ (some : (got_of piece) ≡ 0 → ⊥) where
      pub stopped : (stop : Told) (new : List ℤ) → OfOne window (got_of piece) → length window ≡ window_size → length old ≡ most_numbers
          → (Stopped stop, new) ≡ judging place (take (got_of piece) window) old → Takes raw place piece window old out (S.Stopped stop)
      unfolding step_of
      stopped stop new one size room e =
          kept (S.Stopped stop) (rw (f, ne_eqb (got_of piece) 0 some, ← ap (λ (p : Unpacked × List ℤ). p.0) e)) (λ next p. absurd (false≢true cc))
          (λ other p. let same : stop ≡ other = cc in rw (← same) (never-35 place (take (got_of piece) window) old stop new short room e))
        where
          short : length (take (got_of piece) window) ≤ window_size
          short = omega (arith, length-take-le (got_of piece) window one.within, one.within)

      pub passed : (n : ℕ) (new : List ℤ) (r : Step) → OfOne window (got_of piece) → (Samples n, new) ≡ judging place (take (got_of piece) window) old
          → Writes raw new n (place + (got_of piece)) out r → Takes raw place piece window old out r
      unfolding step_of
      passed n new r one e w =
          record {
            written = w.written;
            step = w.step ∙ rw (f, ne_eqb (got_of piece) 0 some, ← is, ← size);
            came = λ next p. came w.written refl p;
            never-35 = λ stop p. absurd (goes w.written refl p);
          }
        where
          s : List ℕ
          s = take (got_of piece) window

          is : Samples n ≡ (judging place s old).0
          is = ap (λ (p : Unpacked × List ℤ). p.0) e

          size : (got_of piece) ≡ record_length s
          size = whole place s old new n e (got_of piece) (length-take-le _ _ one.within) one.one

          goes : (b : Bool) {stop : Told} → w.written ≡ b → r ≡ S.Stopped stop → ⊥
          goes true q p = let step = rw q at w.step in false≢true cc
          goes false q p = let step = rw q at w.step in false≢true cc

          came : (b : Bool) {next : ℕ} → w.written ≡ b → r ≡ S.Passed next → Came raw (numbers_of s) (length (numbers_of s)) out
          came true q p = rw (← numbers place s old new n e) (w.came q)
          came false q p = let step = rw q at w.step in absurd (false≢true cc)

-- ---- a record that is gone past was all that was read

module _ (written : Bool) (place : ℕ) (s : List ℕ) (next : ℕ) where
  abbrev Sampled : Unpacked → Type 0
  Sampled j = (n : ℕ) × (j ≡ Samples n) × (next ≡ place + record_length s)

  sampled-by : (j : Unpacked) (b : Bool) → S.Passed next ≡ step_by b place s j → Sampled j
  sampled-by (Samples n) true e = (n, refl, cc)
  sampled-by (Samples n) false e = absurd (false≢true cc)
  sampled-by (Stopped stop) b e = absurd (false≢true cc)

  sampled-of : (j : Unpacked) (failed none : Bool) → S.Passed next ≡ cond failed S.Unread (cond none S.Ended (step_by written place s j)) → Sampled j
  sampled-of j true none e = absurd (false≢true cc)
  sampled-of j false true e = absurd (false≢true cc)
  sampled-of j false false e = sampled-by j written e

pub all_read : {raw : Bool} {place : ℕ} {piece : Result ℕ Failure} {window : List ℕ} {old : List ℤ} {out : List ℕ} {r : Step} {next : ℕ}
    → Takes raw place piece window old out r → OfOne window (got_of piece) → r ≡ S.Passed next → next ≡ place + (got_of piece)
unfolding step_of
all_read {raw} {place} {piece} {window} {old} {out} {r} {next} t one p =
    let s = take (got_of piece) window in
    let j = judging place s old in
    let past = sampled-of t.written place s next j.0 (says_failed piece) (eqb (got_of piece) 0) (sym p ∙ t.step) in
    let is : (Samples past.0, j.1) ≡ j = ap (λ (x : Unpacked). (x, j.1)) (sym past.1) in
    let size = whole place s old j.1 past.0 is (got_of piece) (length-take-le _ _ one.within) one.one in
    past.2 ∙ ap (λ (n : ℕ). place + n) (sym size)
