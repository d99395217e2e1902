-- The unticked positions that a search of blocks finds, and the list that they make. Assumes nothing.
use Prim.Native.Nat.{ℕ, zero, suc, ◌+◌, ◌-◌, ◌*◌, ◌/◌, ◌%◌, ◌^◌, ◌≤◌, ◌<◌, min}
use native.Mathlib.Nat.{add-zero, div-one, pow-succ', div-div-eq-div-mul, min-zero, zero-min}
use native.Mathlib.Numerals.{add-one}
use native.Mathlib.Omega.{arith}
use mathlib.Core.Bool.{Bool, true, false, not, cond, ◌&&◌}
use mathlib.Core.List.{List, [], ◌∷◌, ◌++◌, map, map-map, append-nil}
use mathlib.Core.Path.{◌≡◌, refl, sym, ap, ◌∙◌}
use borrow.Author.Tests.{ltb-true, ltb-false}
use lib.Bits.{bit_and, and_step, and_self}
use lib.Count.{count_trailing_zeros, under}
use lib.Dec.{eqb, ltb}
use lib.ListN.{length, set}
use lib.Pow.{mod-pow-add}
use lib.Seq.{sets, sets-eq}
use Rattle.ledger_model.specs.Positions.{row_length, size, any_ticked, missing}
use Rattle.ledger_model.specs.Missing.{positions_of}
use Rattle.ledger_model.proofs.Missing.{length-map, positions-count}
use Rattle.ledger_model.specs.Book.{place, is_free}
use Rattle.ledger_model.specs.Missing.{missing_numbers}
use Rattle.octets.specs.Lists.{table}
use Rattle.ledger_sheet.specs.Sheet.{row_at}
use Rattle.ledger_layout.specs.Layout.{book_of}
use Rattle.ledger_layout.proofs.Readers.{row-read-on}
use Rattle.ledger_layout.specs.Ticks.{ticked_at, ticks_in}
use Rattle.ledger_counts.specs.inner.Counts.{past_highest, number_at_position}
use Rattle.ledger_counts.specs.inner.Blocks.{block_bits, bit_of, IsBlock}
use Rattle.ledger_counts.proofs.Highest.{Top, top_of}
use Rattle.ledger_counts.proofs.Missing.{missing-count, after_first, ticked-after}
use Rattle.ledger_counts.proofs.Reports.{row_count_lem}
use Rattle.ledger_counts.proofs.BlockCounts.{not-bit}
use Rattle.ledger_missing.specs.Missing.{fills, missing_of}
use Rattle.ledger_missing.specs.inner.Gaps.{except, gaps_in, numbers_at}

-- ---- the ones of a block

module _ (f : ℕ → ℕ) (n x : ℕ) where
  abbrev next : ℕ → ℕ
  next i = f (suc i)

  ones_odd : x % 2 ≡ 1 → numbers_at f (suc n) x ≡ f 0 ∷ numbers_at next n (x / 2)
  unfolding numbers_at
  ones_odd e = rw e

  ones-even : x % 2 ≡ 0 → numbers_at f (suc n) x ≡ numbers_at next n (x / 2)
  unfolding numbers_at
  ones-even e = rw e

ones-double : (f : ℕ → ℕ) (n z : ℕ) → numbers_at f (suc n) (z * 2) ≡ numbers_at (λ i. f (suc i)) n z
ones-double f n z = let half : z * 2 / 2 ≡ z = omega arith in ones-even f n (z * 2) (omega arith) ∙ rw half refl

pub ones_none : (f : ℕ → ℕ) (n : ℕ) → numbers_at f n 0 ≡ []
unfolding numbers_at
ones_none f zero = refl
ones_none f (suc n) = ones_none (λ i. f (suc i)) n

-- x & (x - 1): of an odd number, and of an even one
and-odd : (x : ℕ) → x % 2 ≡ 1 → bit_and x (x - 1) ≡ x / 2 * 2
and-odd x e =
    let half : (x - 1) / 2 ≡ x / 2 = omega arith in
    let low : (x - 1) % 2 ≡ 0 = omega arith in
    and_step x (x - 1) ∙ rw (half, low, and_self, min-zero, add-zero) refl

and-even : (x : ℕ) → x % 2 ≡ 0 → bit_and x (x - 1) ≡ bit_and (x / 2) (x / 2 - 1) * 2
and-even x e =
    let half : (x - 1) / 2 ≡ x / 2 - 1 = omega arith in
    and_step x (x - 1) ∙ rw (half, e, zero-min, add-zero) refl

-- the lowest one comes first, and x & (x - 1) has the others
pub lowest-first : (f : ℕ → ℕ) (n x : ℕ) → (x ≡ 0 → ⊥) → x < 2 ^ n → numbers_at f n x ≡ f (count_trailing_zeros n x) ∷ numbers_at f n (bit_and x (x - 1))
unfolding count_trailing_zeros
lowest-first f zero x some l = absurd (some (omega arith))
lowest-first f (suc n) x some l =
    by (x % 2) refl (λ e. lowest-first (λ i. f (suc i)) n (x / 2) (λ z. some (omega arith)) (omega (arith, pow-succ' 2 n)))
  where
    by : (d : ℕ) → x % 2 ≡ d
        → (x % 2 ≡ 0 → numbers_at (λ i. f (suc i)) n (x / 2) ≡ f (suc (count_trailing_zeros n (x / 2)))
        ∷ numbers_at (λ i. f (suc i)) n (bit_and (x / 2) (x / 2 - 1)))
        → numbers_at f (suc n) x ≡ f (under (x % 2) (count_trailing_zeros n (x / 2))) ∷ numbers_at f (suc n) (bit_and x (x - 1))
    by zero e rest =
        let others = ap (numbers_at f (suc n)) (and-even x e) ∙ ones-double f n (bit_and (x / 2) (x / 2 - 1)) in
        ones-even f n x e ∙ rest e ∙ rw (e, others) refl
    by (suc zero) e rest =
        let others = ap (numbers_at f (suc n)) (and-odd x e) ∙ ones-double f n (x / 2) in
        ones_odd f n x e ∙ rw (e, others) refl
    by (suc (suc d)) e rest = absurd (omega arith)

-- the bits of a number's lower part, and of its half
bit-half : (x j : ℕ) → bit_of x (suc j) ≡ bit_of (x / 2) j
bit-half x j = rw (pow-succ', ← div-div-eq-div-mul)

pub bit_below : (x m j : ℕ) → j < m → bit_of (x % 2 ^ m) j ≡ bit_of x j
bit_below x zero j l = absurd (omega arith)
bit_below x (suc m) zero l =
    let parts = rw add-one at (mod-pow-add x m 1) in
    let low : x % 2 ^ suc m % 2 ≡ x % 2 = omega (arith, parts) in
    rw (div-one, div-one, low) refl
bit_below x (suc m) (suc j) l =
    let parts = rw add-one at (mod-pow-add x m 1) in
    let half : x % 2 ^ suc m / 2 ≡ x / 2 % 2 ^ m = omega (arith, parts) in
    bit-half (x % 2 ^ suc m) j ∙ rw half (bit_below (x / 2) m j (omega arith)) ∙ sym (bit-half x j)

-- where bit j is set just where p does not hold of i + j, they are the numbers that p leaves out
pub ones-except : (p : ℕ → Bool) (g f : ℕ → ℕ) (n m i x : ℕ) → m ≤ n → x < 2 ^ m → ((j : ℕ) → j < m → bit_of x j ≡ not (p (i + j)))
    → ((j : ℕ) → f j ≡ g (i + j)) → numbers_at f n x ≡ except p g i m
unfolding except numbers_at
ones-except p g f n zero i x few l bits same = let none : x ≡ 0 = omega arith in rw none (ones_none f n)
ones-except p g f zero (suc m) i x few l bits same = absurd (omega arith)
ones-except p g f (suc n) (suc m) i x few l bits same =
    by (p i) refl
    (ones-except p g (λ j. f (suc j)) n m (suc i) (x / 2) (omega arith) (omega (arith, pow-succ' 2 m))
    (λ j q. sym (bit-half x j) ∙ bits (suc j) (omega arith) ∙ rw (up j) refl) (λ j. same (suc j) ∙ rw (up j) refl))
  where
    up : (j : ℕ) → i + suc j ≡ suc i + j
    up j = omega arith

    here : i + 0 ≡ i
    here = omega arith

    low : eqb (x % 2) 1 ≡ not (p i)
    low = rw (div-one, here) at (bits 0 (omega arith))

    first : f 0 ≡ g i
    first = rw here at (same 0)

    by : (b : Bool) → p i ≡ b → numbers_at (λ j. f (suc j)) n (x / 2) ≡ except p g (suc i) m
        → numbers_at f (suc n) x ≡ cond (p i) (except p g (suc i) m) (g i ∷ except p g (suc i) m)
    by true e rest = rw (low, e) rest
    by false e rest = rw (low, e, first) (ap (λ (l : List ℕ). g i ∷ l) rest)

-- ---- lists of the numbers of which a test does not hold

module _ (p : ℕ → Bool) (f : ℕ → ℕ) where
  pub except-none : (i : ℕ) → except p f i 0 ≡ []
  unfolding except
  except-none i = refl

-- the same of the numbers one up
except-up : (p : ℕ → Bool) (f : ℕ → ℕ) (i n : ℕ) → except (λ j. p (suc j)) (λ j. f (suc j)) i n ≡ except p f (suc i) n
unfolding except
except-up p f i zero = refl
except-up p f i (suc n) = rw (except-up p f (suc i) n)

-- ---- they are the missing ones

none_in : (s : List Bool) → size s ≡ 0 → positions_of s ≡ []
unfolding size positions_of
none_in [] e = refl
none_in (true ∷ s) e = absurd (omega arith)
none_in (false ∷ s) e = ap (map suc) (none_in s e)

positions-except : (f : ℕ → ℕ) (n t : ℕ) (p : ℕ → Bool) → Top n p t → map f (positions_of (missing (table n p))) ≡ except p f 0 t
unfolding table missing positions_of except
positions-except f zero t p top = let w = top.within in let e : t ≡ 0 = omega arith in rw e
positions-except f (suc n) zero p top =
    ap (map f) (none_in (missing (table (suc n) p)) (omega (arith, missing-count (suc n) zero p top)))
positions-except f (suc n) (suc t) p top =
    by (p 0) refl (positions-except (λ i. f (suc i)) n t (λ i. p (suc i)) (after_first n t p top))
  where
    rest : List Bool
    rest = table n (λ i. p (suc i))

    by : (b : Bool) → p 0 ≡ b → map (λ i. f (suc i)) (positions_of (missing rest)) ≡ except (λ i. p (suc i)) (λ i. f (suc i)) 0 t
        → map f (positions_of ((not (p 0) && any_ticked rest) ∷ missing rest)) ≡ cond (p 0) (except p f 1 t) (f 0 ∷ except p f 1 t)
    by true e h = rw e (map-map f suc (positions_of (missing rest)) ∙ h ∙ except-up p f 0 t)
    by false e h =
        rw (e, ticked-after n t p top e) (ap (λ (l : List ℕ). f 0 ∷ l) (map-map f suc (positions_of (missing rest)) ∙ h ∙ except-up p f 0 t))

module _ (s : List ℕ) (a : ℕ) where
  abbrev end : ℕ
  end = past_highest row_length (ticked_at s a)

  -- the missing numbers, as they are read
  abbrev pub missing_at : List ℕ
  missing_at = map (number_at_position s a) (positions_of (missing (ticks_in s a)))

  pub gaps-missing : gaps_in s a 0 end ≡ missing_at
  unfolding ticks_in
  gaps-missing = sym (positions-except (number_at_position s a) row_length end (ticked_at s a) (top_of row_length (ticked_at s a)))

  -- so many as are below the end of the ticks and not ticked
  pub missing-many : length missing_at ≡ end - size (ticks_in s a)
  missing-many =
      let many = length-map (number_at_position s a) (positions_of (missing (ticks_in s a))) ∙ positions-count (missing (ticks_in s a)) in
      omega (arith, many, row_count_lem s a)

-- those of a row of the book
pub missing-is : (s : List ℕ) (i : ℕ) → is_free (place (book_of s) i) ≡ false → missing_of s i ≡ missing_at s (row_at i)
missing-is s i f = ap missing_numbers (row-read-on s i f)

-- ---- the gaps, block by block

except-split : (p : ℕ → Bool) (f : ℕ → ℕ) (m n i : ℕ) → except p f i (m + n) ≡ except p f i m ++ except p f (i + m) n
unfolding except
except-split p f zero n i = let none : 0 + n ≡ n = omega arith in let here : i + 0 ≡ i = omega arith in rw (none, here) refl
except-split p f (suc m) n i = by (p i) refl (rw up (except-split p f m n (suc i)))
  where
    up : i + suc m ≡ suc i + m
    up = omega arith

    by : (b : Bool) → p i ≡ b → except p f (suc i) (m + n) ≡ except p f (suc i) m ++ except p f (i + suc m) n
        → except p f i (suc m + n) ≡ cond (p i) (except p f (suc i) m) (f i ∷ except p f (suc i) m) ++ except p f (i + suc m) n
    by true e rest = let more : suc m + n ≡ suc (m + n) = omega arith in rw (more, e) rest
    by false e rest = let more : suc m + n ≡ suc (m + n) = omega arith in rw (more, e) (ap (λ (l : List ℕ). f i ∷ l) rest)

-- those of a block's positions and those behind
pub gaps-block : (s : List ℕ) (a end k : ℕ) → block_bits * k < end
    → gaps_in s a (block_bits * k) (end - block_bits * k)
    ≡ gaps_in s a (block_bits * k) (min block_bits (end - block_bits * k)) ++ gaps_in s a (block_bits * (k + 1)) (end - block_bits * (k + 1))
gaps-block s a end k l = by (ltb (end - block_bits * k) block_bits) refl
  where
    left : ℕ
    left = end - block_bits * k

    by : (b : Bool) → ltb (end - block_bits * k) block_bits ≡ b
        → gaps_in s a (block_bits * k) (end - block_bits * k)
        ≡ gaps_in s a (block_bits * k) (min block_bits (end - block_bits * k)) ++ gaps_in s a (block_bits * (k + 1)) (end - block_bits * (k + 1))
    by true e =
        let few = ltb-true (end - block_bits * k) block_bits e in
        let least : min block_bits (end - block_bits * k) ≡ end - block_bits * k = omega arith in
        let none : end - block_bits * (k + 1) ≡ 0 = omega arith in
        rw (least, none, except-none (ticked_at s a) (number_at_position s a) (block_bits * (k + 1)))
        (sym (append-nil (gaps_in s a (block_bits * k) (end - block_bits * k))))
    by false e =
        let many = ltb-false (end - block_bits * k) block_bits e in
        let least : min block_bits (end - block_bits * k) ≡ block_bits = omega arith in
        let whole : end - block_bits * k ≡ block_bits + (end - block_bits * (k + 1)) = omega arith in
        let up : block_bits * k + block_bits ≡ block_bits * (k + 1) = omega arith in
        rw least
        (ap (gaps_in s a (block_bits * k)) whole
        ∙ rw up at (except-split (ticked_at s a) (number_at_position s a) block_bits (end - block_bits * (k + 1)) (block_bits * k)))

-- the block of unticked positions has the numbers at the gaps
pub block-gaps : (s : List ℕ) (a k m w x : ℕ) → IsBlock s a k w → w < 2 ^ block_bits → m ≤ block_bits → x < 2 ^ m
    → ((j : ℕ) → j < m → bit_of x j ≡ bit_of (2 ^ block_bits - 1 - w) j)
    → numbers_at (λ i. number_at_position s a (block_bits * k + i)) block_bits x ≡ gaps_in s a (block_bits * k) m
block-gaps s a k m w x block fits few l bits =
    ones-except (ticked_at s a) (number_at_position s a) (λ i. number_at_position s a (block_bits * k + i)) block_bits m (block_bits * k) x few l
    (λ j q. bits j q ∙ not-bit block_bits w j fits (omega arith) ∙ ap not (block j (omega arith))) (λ j. refl)

-- ---- stored one after the other

pub sets-append : (xs ys l : List ℕ) (c : ℕ) → sets l c (xs ++ ys) ≡ sets (sets l c xs) (c + length xs) ys
sets-append [] ys l c = let here : c + 0 ≡ c = omega arith in rw here refl
sets-append (x ∷ xs) ys l c =
    let up : c + length (x ∷ xs) ≡ suc c + length xs = omega arith in
    rw up (sets-append xs ys (set l c x) (suc c))

pub sets-fill : (xs old : List ℕ) → length xs ≤ length old → sets old 0 xs ≡ fills xs old
sets-fill xs old l = let up : 0 + length xs ≡ length xs = omega arith in sets-eq xs old 0 (omega arith) ∙ rw up refl
