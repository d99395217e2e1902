-- A row that is ticked from a position of its first block on, and nowhere below: its blocks, and its report. Assumes nothing.
use Prim.Native.Nat.{ℕ, ◌+◌, ◌-◌, ◌*◌, ◌/◌, ◌^◌, ◌≤◌, ◌<◌}
use native.Mathlib.Nat.{div-div-eq-div-mul, eq-or-lt_of_le}
use native.Mathlib.Omega.{arith}
use mathlib.Core.Bool.{Bool, true, false, not}
use mathlib.Core.List.{List, [], ◌∷◌}
use mathlib.Core.Logic.{⊎_elim}
use mathlib.Core.Path.{◌≡◌, refl, sym, ap, ◌∙◌}
use borrow.Author.Tests.{ltb-true, ltb-false}
use lib.Bits.{bit_and, and_le_l, and_le_r}
use lib.Count.{count_trailing_zeros, trailing_le}
use lib.Dec.{ltb}
use lib.Pow.{pow_pos, pow-add}
use Rattle.ledger_model.specs.Positions.{row_length, size}
use Rattle.ledger_layout.specs.Ticks.{ticked_at, ticks_in}
use Rattle.ledger_layout.proofs.Scans.{each_none, lowest-fails, lowest-here, lowest-none}
use Rattle.ledger_counts.specs.inner.Counts.{past_highest, number_at_position, report_words}
use Rattle.ledger_counts.specs.inner.Blocks.{block_bits, bit_of, IsBlock, TickedFrom, StartsAt}
use Rattle.ledger_counts.proofs.Highest.{past-here}
use Rattle.ledger_counts.proofs.Missing.{size-from}
use Rattle.ledger_counts.proofs.BlockCounts.{bit-above, not-bit, trailing-lowest, trailing-all}
use Rattle.ledger_counts.proofs.Reports.{report-whole, report-gaps}

-- ---- full blocks

pub full-bit : (k i : ℕ) → i < k → bit_of (2 ^ k - 1) i ≡ true
full-bit k i l =
    let e : 2 ^ k - 1 - 0 ≡ 2 ^ k - 1 = omega arith in
    rw e at (not-bit k 0 i (pow_pos k) l ∙ ap not (bit-above 0 i (pow_pos i)))

-- two blocks that have every one in common are full
pub and-full : (k x y : ℕ) → x < 2 ^ k → y < 2 ^ k → bit_and x y ≡ 2 ^ k - 1 → (x ≡ 2 ^ k - 1) × (y ≡ 2 ^ k - 1)
and-full k x y p q e = (omega (arith, and_le_l x y), omega (arith, and_le_r x y))

-- bits from n on, as those of the number shifted down by n
pub shifted : (x n j : ℕ) → x / 2 ^ (n + j) ≡ x / 2 ^ n / 2 ^ j
shifted x n j = rw (pow-add 2 n j, ← div-div-eq-div-mul)

tail-bit : (k x n i : ℕ) → x / 2 ^ n ≡ (2 ^ k - 1) / 2 ^ n → n ≤ i → i < k → bit_of x i ≡ true
tail-bit k x n i e h l =
    let up : n + (i - n) ≡ i = omega arith in
    let full = rw (shifted (2 ^ k - 1) n (i - n)) at (rw (← up) at (full-bit k i l)) in
    rw (← up) (rw (shifted x n (i - n), e) full)

-- a block that is not zero has a lowest one
pub some_one : (k x : ℕ) → x < 2 ^ k → (x ≡ 0 → ⊥) → count_trailing_zeros k x < k
some_one k x l n =
    ⊎_elim (λ (e : count_trailing_zeros k x ≡ k). absurd (n (trailing-all k x l e)))
    (λ (q : count_trailing_zeros k x < k). q) (eq-or-lt_of_le (trailing_le k x))

-- ---- the positions of a block

module _ (s : List ℕ) (a : ℕ) where
  pub block-ticked : (k w : ℕ) → IsBlock s a k w → w ≡ 2 ^ block_bits - 1 → TickedFrom s a (block_bits * k) (block_bits * (k + 1))
  block-ticked k w block e i h l =
      let j = i - block_bits * k in
      let here : block_bits * k + j ≡ i = omega arith in
      rw here at (sym (block j (omega arith)) ∙ rw (← e) at (full-bit block_bits j (omega arith)))

  pub ticked-join : (i j k : ℕ) → TickedFrom s a i j → TickedFrom s a j k → TickedFrom s a i k
  ticked-join i j k below above n h l = by (ltb n j) refl
    where
      by : (f : Bool) → ltb n j ≡ f → ticked_at s a n ≡ true
      by true q = below n h (ltb-true n j q)
      by false q = above n (ltb-false n j q) l

  -- the first block's ticks begin at its lowest one, and go on from there
  module _ (w : ℕ) (block : IsBlock s a 0 w) where
    abbrev start : ℕ
    start = count_trailing_zeros block_bits w

    first-unticked : (k : ℕ) → k < start → k < block_bits → ticked_at s a k ≡ false
    first-unticked k l q =
        let here : block_bits * 0 + k ≡ k = omega arith in
        let low = trailing-lowest block_bits w in
        rw here at (sym (block k q) ∙ lowest-fails block_bits (bit_of w) k (omega arith))

    first-ticked : w / 2 ^ start ≡ (2 ^ block_bits - 1) / 2 ^ start → TickedFrom s a start block_bits
    first-ticked e k h l =
        let here : block_bits * 0 + k ≡ k = omega arith in
        rw here at (sym (block k l) ∙ tail-bit block_bits w start k e h l)

    pub starts-at : start ≤ block_bits → w / 2 ^ start ≡ (2 ^ block_bits - 1) / 2 ^ start → TickedFrom s a block_bits row_length → StartsAt s a start
    starts-at few e behind =
        record {
          ticked = ticked-join start block_bits row_length (first-ticked e) behind;
          unticked = λ k l. first-unticked k l (omega arith);
        }

  -- ---- the report of such a row

  module _ (r : ℕ) (starts : StartsAt s a r) (l : r < row_length) where
    last : past_highest row_length (ticked_at s a) ≡ row_length
    last = past-here row_length (ticked_at s a) (omega arith) (starts.ticked (row_length - 1) (omega arith) (omega arith))

    count : size (ticks_in s a) + r ≡ row_length
    unfolding ticks_in
    count = size-from row_length r (ticked_at s a) (omega arith) starts.unticked starts.ticked

    pub report-start : 0 < r → 0 ∷ (row_length - r) ∷ r ∷ number_at_position s a 0 ∷ [] ≡ report_words s a
    report-start some =
        let first = lowest-here row_length 0 (λ i. not (ticked_at s a i)) (omega arith) (each_none _ _) (ap not (starts.unticked 0 some)) in
        let gaps = rw (last, first) at (report-gaps s a (rw (last, first) (omega arith))) in
        let ticked : size (ticks_in s a) ≡ row_length - r = omega (arith, count) in
        let missing : row_length - (row_length - r) ≡ r = omega arith in
        rw (ticked, missing) at gaps

  pub report-full : StartsAt s a 0 → 0 ∷ row_length ∷ 0 ∷ [] ≡ report_words s a
  report-full starts =
      let end = last 0 starts (omega arith) in
      let none = lowest-none row_length (λ i. not (ticked_at s a i)) (λ i l. ap not (starts.ticked i (omega arith) l)) in
      rw end at (report-whole s a (rw (end, none) (omega arith)))
