-- Counts of a number's bits: its ones, its zeros above and below; and what those of a block of ticks say of its 64 positions.
-- Assumes nothing.
use Prim.Native.Nat.{ℕ, zero, suc, ◌+◌, ◌-◌, ◌*◌, ◌/◌, ◌%◌, ◌^◌, ◌≤◌, ◌<◌}
use native.Mathlib.Nat.{add-zero, mod-lt, div-one, pow-succ', div-div-eq-div-mul, div-eq_of_lt, div-eq_of_lt-le, lt_of_lt_of_le, zero-lt-suc}
use native.Mathlib.Omega.{arith}
use mathlib.Core.Bool.{Bool, true, false, not, cond}
use mathlib.Core.List.{List, ◌∷◌}
use mathlib.Core.Path.{◌≡◌, refl, sym, ap, ◌∙◌, fun_ext}
use borrow.Author.Tests.{ltb-true, ltb-false, not-false}
use lib.Bits.{bit_and, and_le_l, and_le_r}
use lib.Count.{ones, ones_step, ones-ones, ones-le, count_leading_zeros, leading_of_zero, leading_top, count_trailing_zeros, trailing_of_zero, trailing_le}
use lib.Count.{under}
use lib.Dec.{eqb, ltb}
use lib.Pow.{pow_pos, pow_mono}
use Rattle.ledger_model.specs.Positions.{size}
use Rattle.ledger_layout.specs.Ticks.{ticked_at}
use Rattle.octets.specs.Lists.{table}
use Rattle.ledger_layout.specs.inner.Scans.{lowest}
use Rattle.ledger_counts.specs.inner.Counts.{past_highest}
use Rattle.ledger_layout.proofs.Scans.{Fails, lowest-fails, lowest-holds}
use Rattle.ledger_counts.proofs.Highest.{top_of, past-here, past_skip, past-none}
use Rattle.ledger_counts.specs.inner.Blocks.{block_bits, group_blocks, bit_of, IsBlock, TickedFrom}
use Rattle.ledger_counts.proofs.Missing.{size-cons, size_none, size-more}

-- ---- the ones of a number

digit : (d : ℕ) → d < 2 → cond (eqb d 1) 1 0 ≡ d
digit zero l = refl
digit (suc zero) l = refl
digit (suc (suc d)) l = absurd (omega arith)

-- bit k + 1 is bit k of the half
bit-half : (x k : ℕ) → bit_of x (suc k) ≡ bit_of (x / 2) k
bit-half x k = rw (pow-succ', ← div-div-eq-div-mul)

pub bits-ones : (k x : ℕ) → x < 2 ^ k → size (table k (bit_of x)) ≡ ones x
unfolding table ones
bits-ones zero x l = let e : x ≡ 0 = omega arith in rw e (size_none (bit_of 0))
bits-ones (suc k) x l =
    let rest = bits-ones k (x / 2) (omega (arith, pow-succ' 2 k)) in
    let halved = fun_ext (bit-half x) in
    size-cons (bit_of x 0) (table k (λ j. bit_of x (suc j))) ∙ rw (halved, rest, div-one, digit (x % 2) (mod-lt x (zero-lt-suc 1))) (sym (ones_step x))

full-ones : (k x : ℕ) → x < 2 ^ k → 2 ^ k - 1 ≤ x → ones x ≡ k
full-ones k x l h = let e : x ≡ 2 ^ k - 1 = omega arith in rw e (ones-ones k)

-- those of a group of four blocks of k bits
abbrev pub AllFit : (k x y z w : ℕ) → Type 0
AllFit k x y z w = (x < 2 ^ k) × (y < 2 ^ k) × (z < 2 ^ k) × (w < 2 ^ k)

module _ (k x y z w : ℕ) (fits : AllFit k x y z w) where
  pub group-few : ones x + ones y + ones z + ones w ≤ group_blocks * k
  group-few = omega (arith, ones-le k x fits.0, ones-le k y fits.1, ones-le k z fits.2, ones-le k w fits.3)

  -- blocks that have every one in common are full
  pub group-full : bit_and (bit_and (bit_and x y) z) w ≡ 2 ^ k - 1 → ones x + ones y + ones z + ones w ≡ group_blocks * k
  group-full e =
      let two = bit_and x y in
      let three = bit_and two z in
      let in_three = and_le_l three w in
      let in_two = and_le_l two z in
      let x-full = full-ones k x fits.0 (omega (arith, in_three, in_two, and_le_l x y)) in
      let y-full = full-ones k y fits.1 (omega (arith, in_three, in_two, and_le_r x y)) in
      let z-full = full-ones k z fits.2 (omega (arith, in_three, and_le_r two z)) in
      let w-full = full-ones k w fits.3 (omega (arith, and_le_r three w)) in
      omega arith

-- ---- the zeros above its highest one

pub bit-above : (x i : ℕ) → x < 2 ^ i → bit_of x i ≡ false
bit-above x i l = rw (div-eq_of_lt l)

bit-top : (x j : ℕ) → 2 ^ j ≤ x → x < 2 ^ suc j → bit_of x j ≡ true
bit-top x j l h = let e : x / 2 ^ j ≡ 1 = div-eq_of_lt-le (2 ^ j) (omega arith) (omega (arith, pow-succ' 2 j)) in rw e

pub leading-past : (k x : ℕ) → x < 2 ^ k → k - count_leading_zeros k x ≡ past_highest k (bit_of x)
leading-past k zero l =
    let up : 0 + k ≡ k = omega arith in
    let none = past_skip k 0 (bit_of 0) (λ i h q. bit-above 0 i (pow_pos i)) in
    omega (arith, leading_of_zero k, rw up at none, past-none (bit_of 0))
leading-past k (suc n) l =
    let t = leading_top k (suc n) (zero-lt-suc n) l in
    let j = t.0 in
    let sum = t.1 in
    let up : suc j + (k - suc j) ≡ k = omega arith in
    let one : suc j - 1 ≡ j = omega arith in
    let above = past_skip (k - suc j) (suc j) (bit_of (suc n)) (λ i h q. bit-above (suc n) i (lt_of_lt_of_le t.3 (pow_mono h))) in
    let here = past-here (suc j) (bit_of (suc n)) (zero-lt-suc j) (rw one (bit-top (suc n) j t.2 t.3)) in
    omega (arith, rw up at above, here)

-- ---- the zeros below its lowest one

under-cond : (d t : ℕ) → d < 2 → under d t ≡ cond (eqb d 1) 0 (suc t)
under-cond zero t l = refl
under-cond (suc zero) t l = refl
under-cond (suc (suc d)) t l = absurd (omega arith)

pub trailing-lowest : (k x : ℕ) → count_trailing_zeros k x ≡ lowest k (bit_of x)
unfolding count_trailing_zeros lowest
trailing-lowest zero x = refl
trailing-lowest (suc k) x =
    let rest = trailing-lowest k (x / 2) in
    let halved = fun_ext (bit-half x) in
    rw (halved, div-one, ← rest) (under-cond (x % 2) (count_trailing_zeros k (x / 2)) (mod-lt x (zero-lt-suc 1)))

-- only 0 has no one among its bits
pub trailing-all : (k x : ℕ) → x < 2 ^ k → count_trailing_zeros k x ≡ k → x ≡ 0
unfolding count_trailing_zeros
trailing-all zero x l e = omega arith
trailing-all (suc k) x l e = by (x % 2) refl (trailing-all k (x / 2) (omega (arith, pow-succ' 2 k))) e
  where
    t : ℕ
    t = count_trailing_zeros k (x / 2)

    by : (d : ℕ) → x % 2 ≡ d → (t ≡ k → x / 2 ≡ 0) → under d t ≡ suc k → x ≡ 0
    by zero q rest h = let half = rest (omega arith) in omega arith
    by (suc d) q rest h = absurd (omega arith)

-- ---- the bits of a complement

flip : (d e : ℕ) → d + e ≡ 1 → eqb d 1 ≡ not (eqb e 1)
flip d zero h = let one : d ≡ 1 = omega arith in rw one
flip d (suc zero) h = let none : d ≡ 0 = omega arith in rw none
flip d (suc (suc e)) h = absurd (omega arith)

pub not-bit : (k x i : ℕ) → x < 2 ^ k → i < k → bit_of (2 ^ k - 1 - x) i ≡ not (bit_of x i)
not-bit zero x i l h = absurd (omega arith)
not-bit (suc k) x zero l h =
    let double = pow-succ' 2 k in
    flip ((2 ^ suc k - 1 - x) / 2 ^ 0 % 2) (x / 2 ^ 0 % 2) (rw (div-one, div-one) (omega arith))
not-bit (suc k) x (suc i) l h =
    let double = pow-succ' 2 k in
    let half : (2 ^ suc k - 1 - x) / 2 ≡ 2 ^ k - 1 - x / 2 = omega arith in
    bit-half (2 ^ suc k - 1 - x) i ∙ rw half (not-bit k (x / 2) i (omega arith) (omega arith)) ∙ ap not (sym (bit-half x i))

-- ---- tables

size-split : (n k : ℕ) (p : ℕ → Bool) → size (table (n + k) p) ≡ size (table n p) + size (table k (λ j. p (n + j)))
size-split n zero p = rw (add-zero, size_none, add-zero)
size-split n (suc k) p =
    let next : n + suc k ≡ n + k + 1 = omega arith in
    let one : suc k ≡ k + 1 = omega arith in
    let here = size-more (n + k) p in
    let there = size-more k (λ j. p (n + j)) in
    rw (next, one) (omega (arith, here, there, size-split n k p))

table-alike : (k : ℕ) (p q : ℕ → Bool) → ((j : ℕ) → j < k → p j ≡ q j) → table k p ≡ table k q
unfolding table
table-alike zero p q h = refl
table-alike (suc k) p q h =
    rw (h 0 (zero-lt-suc k)) (ap (λ (l : List Bool). q 0 ∷ l) (table-alike k (λ j. p (suc j)) (λ j. q (suc j)) (λ j l. h (suc j) (omega arith))))

-- ---- a block of ticks

-- As many of the positions of block k have the property as the block has ones, whose bits say which.
pub count-more : (p : ℕ → Bool) (k w : ℕ) → ((i : ℕ) → i < block_bits → bit_of w i ≡ p (block_bits * k + i)) → w < 2 ^ block_bits
    → size (table (block_bits * (k + 1)) p) ≡ size (table (block_bits * k) p) + ones w
count-more p k w block fits =
    let next : block_bits * (k + 1) ≡ block_bits * k + block_bits = omega arith in
    let bits = table-alike block_bits (λ i. p (block_bits * k + i)) (bit_of w) (λ i l. sym (block i l)) in
    rw next (size-split (block_bits * k) block_bits p ∙ rw (bits, bits-ones block_bits w fits))

module _ (s : List ℕ) (a k w : ℕ) (block : IsBlock s a k w) (fits : w < 2 ^ block_bits) where
  next : block_bits * (k + 1) ≡ block_bits * k + block_bits
  next = omega arith

  -- as many positions are ticked as the block has ones
  pub block-count : size (table (block_bits * (k + 1)) (ticked_at s a)) ≡ size (table (block_bits * k) (ticked_at s a)) + ones w
  block-count = count-more (ticked_at s a) k w block fits

  -- the end of the ticks, where it lies in the block, or below it
  abbrev end : ℕ
  end = past_highest block_bits (bit_of w)

  block-past : past_highest (block_bits * (k + 1)) (ticked_at s a) ≡ past_highest (block_bits * k + end) (ticked_at s a)
  block-past =
      let top = top_of block_bits (bit_of w) in
      let within = top.within in
      let up : block_bits * (k + 1) ≡ block_bits * k + end + (block_bits - end) = omega arith in
      rw up (past_skip (block_bits - end) (block_bits * k + end) (ticked_at s a) (λ i h l.
      let j = i - block_bits * k in
      let here : block_bits * k + j ≡ i = omega arith in
      rw here at (sym (block j (omega arith)) ∙ top.above j (omega arith) (omega arith))))

  pub block_none : w ≡ 0 → past_highest (block_bits * (k + 1)) (ticked_at s a) ≡ past_highest (block_bits * k) (ticked_at s a)
  block_none e =
      let none = rw e at (leading-past block_bits w fits) in
      let here : block_bits * k + end ≡ block_bits * k =
      omega (arith, none, leading_of_zero block_bits, ap (λ (x : ℕ). past_highest block_bits (bit_of x)) e) in
      block-past ∙ rw here refl

  pub block-end : 0 < w → past_highest (block_bits * (k + 1)) (ticked_at s a) ≡ block_bits * (k + 1) - count_leading_zeros block_bits w
  block-end l =
      let t = leading_top block_bits w l fits in
      let sum = t.1 in
      let past = leading-past block_bits w fits in
      let top = top_of block_bits (bit_of w) in
      let j = end - 1 in
      let here : block_bits * k + j ≡ block_bits * k + end - 1 = omega arith in
      let ticked = rw here at (sym (block j (omega arith)) ∙ top.last j (omega arith)) in
      block-past ∙ past-here (block_bits * k + end) (ticked_at s a) (omega arith) ticked ∙ omega arith

  -- the lowest unticked position, where it lies in the block
  abbrev unticked : ℕ → Bool
  unticked i = not (ticked_at s a i)

  abbrev low : ℕ
  low = count_trailing_zeros block_bits (2 ^ block_bits - 1 - w)

  unticked-bit : (i : ℕ) → i < block_bits → bit_of (2 ^ block_bits - 1 - w) i ≡ unticked (block_bits * k + i)
  unticked-bit i l = not-bit block_bits w i fits l ∙ ap not (block i l)

  -- the positions of the block below its lowest unticked one are ticked
  pub block-ticked-below : TickedFrom s a (block_bits * k) (block_bits * k + low)
  block-ticked-below i h l =
      let within = trailing_le block_bits (2 ^ block_bits - 1 - w) in
      let low-is = trailing-lowest block_bits (2 ^ block_bits - 1 - w) in
      let j = i - block_bits * k in
      let here : block_bits * k + j ≡ i = omega arith in
      rw here at (not-false _ (sym (unticked-bit j (omega arith)) ∙ lowest-fails block_bits (bit_of (2 ^ block_bits - 1 - w)) j (omega arith)))

  pub block-below : Fails unticked (block_bits * k) → Fails unticked (block_bits * k + low)
  block-below h i l = by (ltb i (block_bits * k)) refl
    where
      by : (f : Bool) → ltb i (block_bits * k) ≡ f → unticked i ≡ false
      by true q = h i (ltb-true i (block_bits * k) q)
      by false q = ap not (block-ticked-below i (ltb-false i (block_bits * k) q) l)

  pub block-full : 2 ^ block_bits - 1 - w ≡ 0 → low ≡ block_bits
  block-full e = rw e (trailing_of_zero block_bits)

  pub block-ticked-all : 2 ^ block_bits - 1 - w ≡ 0 → TickedFrom s a (block_bits * k) (block_bits * (k + 1))
  block-ticked-all e i h l = let all = block-full e in block-ticked-below i h (omega arith)

  pub block-lowest : 0 < 2 ^ block_bits - 1 - w → unticked (block_bits * k + low) ≡ true
  block-lowest l = by (ltb low block_bits) refl
    where
      by : (f : Bool) → ltb low block_bits ≡ f → unticked (block_bits * k + low) ≡ true
      by true q =
          let low-is = trailing-lowest block_bits (2 ^ block_bits - 1 - w) in
          let within = ltb-true low block_bits q in
          sym (unticked-bit low within) ∙ rw low-is (lowest-holds block_bits (bit_of (2 ^ block_bits - 1 - w)) (omega arith))
      by false q =
          let within = trailing_le block_bits (2 ^ block_bits - 1 - w) in
          let above = ltb-false low block_bits q in
          let none = trailing-all block_bits (2 ^ block_bits - 1 - w) (omega arith) (omega arith) in
          absurd (omega arith)

-- ---- a group of blocks

module _ (s : List ℕ) (a k x y z w : ℕ) (fits : AllFit block_bits x y z w) where
  pub group-count : IsBlock s a k x → IsBlock s a (k + 1) y → IsBlock s a (k + 2) z → IsBlock s a (k + 3) w
      → size (table (block_bits * (k + group_blocks)) (ticked_at s a)) ≡ size (table (block_bits * k) (ticked_at s a)) + (ones x + ones y + ones z + ones w)
  group-count in-x in-y in-z in-w =
      let up : (j : ℕ) → k + j + 1 ≡ k + (j + 1) = λ j. omega arith in
      let first = block-count s a k x in-x fits.0 in
      let second = rw (up 1) at (block-count s a (k + 1) y in-y fits.1) in
      let third = rw (up 2) at (block-count s a (k + 2) z in-z fits.2) in
      let fourth = rw (up 3) at (block-count s a (k + 3) w in-w fits.3) in
      omega arith
