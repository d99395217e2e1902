-- `ledger_missing::put_block` meets its contract. The invariant: the numbers at the bits that are left, stored from `at` on, give the result.
-- Assumes nothing.
use Prim.Native.Nat.{ℕ, ◌-◌, ◌<◌}
use native.Mathlib.Numerals.{add-one}
use native.Mathlib.Omega.{arith}
use mathlib.Core.List.{List, ◌∷◌}
use mathlib.Core.Path.{◌≡◌, refl, ap, ◌∙◌}
use lib.Bits.{bit_and, and_le_r}
use lib.Count.{count_trailing_zeros}
use lib.ListN.{length, length-set}
use Rattle.ledger_counts.specs.inner.Blocks.{block_bits}
use Rattle.ledger_counts.proofs.Starts.{some_one}
use Rattle.ledger_missing.proofs.Gaps.{ones_none, lowest-first}
use Rattle.ledger_missing.proofs.Blocks.{number_of, numbers}
use Rattle.ledger_missing.proofs.put_block.Goals as goal
use Rattle.ledger_missing.proofs.put_block.Goals.{In-loop-left}

pub loop-left-init : goal.loop-left-init
loop-left-init c = (omega arith, refl, refl, refl)

-- The lowest bit is one of the block's 64, and its number comes first of those that are left.
low : (c : In-loop-left) → count_trailing_zeros block_bits c.loop-left.left < block_bits
low c = some_one block_bits c.loop-left.left c.loop-left.invariant.0 c.loop-left-test.true

first : (c : In-loop-left)
    → let g = c.args in
    let left = c.loop-left.left in
    numbers g.key g.first g.base left
    ≡ number_of g.key g.first g.base (count_trailing_zeros block_bits left) ∷ numbers g.key g.first g.base (bit_and left (left - 1))
first c =
    let g = c.args in
    lowest-first (number_of g.key g.first g.base) block_bits c.loop-left.left c.loop-left-test.true c.loop-left.invariant.0

-- So there is an entry for it.
room : (c : In-loop-left) → c.loop-left.at < length c.loop-left.list
room c =
    omega (arith, c.requires.1, c.loop-left.invariant.1, c.loop-left.invariant.2, ap (λ (l : List ℕ). length l) (first c))

pub overflow_cast-i : goal.overflow_cast-i
overflow_cast-i c = omega (arith, low c)

pub overflow_add-i : goal.overflow_add-i
overflow_add-i c = omega (arith, low c)

pub overflow_cast-i-in-loop-left : goal.overflow_cast-i-in-loop-left
overflow_cast-i-in-loop-left c = omega (arith, low c)

pub offset_bounds-list-at : goal.offset_bounds-list-at
offset_bounds-list-at c =
    omega (arith, room (goal.at.offset_bounds-list-at c).In-loop-left, c.loop-left.invariant.1)

pub bounds-list-at : goal.bounds-list-at
bounds-list-at c = room (goal.at.bounds-list-at c).In-loop-left

pub overflow_add-at : goal.overflow_add-at
overflow_add-at c = omega (arith, room (goal.at.overflow_add-at c).In-loop-left, offset_bounds-list-at c)

pub loop-left-smaller : goal.loop-left-smaller
loop-left-smaller c = let left = c.loop-left.left in omega (arith, and_le_r left (left - 1))

pub loop-left-preserved : goal.loop-left-preserved
loop-left-preserved c =
    let left = c.loop-left.left in
    let now = first (goal.at.loop-left-preserved c).In-loop-left in (
      omega (arith, and_le_r left (left - 1)),
      length-set c.loop-left.list c.loop-left.at _ ∙ c.loop-left.invariant.1,
      omega (arith, c.loop-left.invariant.2, ap (λ (l : List ℕ). length l) now),
      rw (c.number_at.ensures, add-one) (rw now at c.loop-left.invariant.3),
    )

pub shape_of-list : goal.shape_of-list
shape_of-list c = c.loop-left.invariant.1

pub returns : goal.returns
returns c =
    let g = c.args in
    let none : c.loop-left.left ≡ 0 = omega arith in
    let empty = ap (numbers g.key g.first g.base) none ∙ ones_none (number_of g.key g.first g.base) block_bits in
    record { put = rw empty at c.loop-left.invariant.3; past = omega (arith, c.loop-left.invariant.2, ap (λ (l : List ℕ). length l) empty) }
