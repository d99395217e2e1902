-- `ledger_missing::put_gaps` meets its contract. The invariant: the numbers from block k on, stored from `at` on, give the result. Assumes nothing.
use Prim.Native.Nat.{ℕ, ◌+◌, ◌-◌, ◌*◌}
use native.Mathlib.Omega.{arith}
use mathlib.Core.List.{List, ◌++◌}
use mathlib.Core.Path.{◌≡◌, refl, sym, ap, ◌∙◌}
use lib.ListN.{length, length-append}
use lib.Seq.{sets, length-sets}
use Rattle.ledger_model.specs.Positions.{position_number}
use Rattle.ledger_layout.specs.Ticks.{ticked_at}
use Rattle.ledger_counts.specs.inner.Counts.{number_at_position}
use Rattle.ledger_counts.specs.inner.Blocks.{block_bits}
use Rattle.ledger_missing.specs.inner.Gaps.{gaps_in, numbers_at}
use Rattle.ledger_missing.proofs.Gaps.{except-none, gaps-block, sets-append}
use Rattle.ledger_missing.proofs.Blocks.{onward, here}
use Rattle.ledger_missing.proofs.put_gaps.Goals as goal
use Rattle.ledger_missing.proofs.put_gaps.Goals.{After-unticked_block-block}

pub loop-k-init : goal.loop-k-init
loop-k-init c =
    let g = c.args in
    let all : g.end - 0 ≡ g.end = omega arith in
    let same = ap (gaps_in g.s.now g.a 0) all in
    (omega arith, refl, omega (arith, c.requires.2, ap (λ (l : List ℕ). length l) same), ap (sets g.list.now 0) same)

-- What is stored of a block are its numbers, and those behind it come after them.
own : (c : After-unticked_block-block)
    → let g = c.args in
    numbers_at (λ i. position_number c.key_at-key.result c.first_at-first.result (block_bits * c.loop-k.k + i)) block_bits
    c.unticked_block-block.result
    ≡ here g.s.now g.a g.end c.loop-k.k
own c =
    rw (c.key_at-key.ensures, c.first_at-first.ensures) c.unticked_block-block.ensures

split : (c : After-unticked_block-block)
    → let g = c.args in
    onward g.s.now g.a g.end c.loop-k.k ≡ here g.s.now g.a g.end c.loop-k.k ++ onward g.s.now g.a g.end (c.loop-k.k + 1)
split c =
    let g = c.args in
    gaps-block g.s.now g.a g.end c.loop-k.k c.loop-k-test.true

-- and so many there are
many : (c : After-unticked_block-block)
    → let g = c.args in
    length (onward g.s.now g.a g.end c.loop-k.k)
    ≡ length (here g.s.now g.a g.end c.loop-k.k) + length (onward g.s.now g.a g.end (c.loop-k.k + 1))
many c =
    let g = c.args in
    ap (λ (xs : List ℕ). length xs) (split c) ∙ length-append (here g.s.now g.a g.end c.loop-k.k) (onward g.s.now g.a g.end (c.loop-k.k + 1))

pub put_block-at-requires : goal.put_block-at-requires
put_block-at-requires c = (
  omega arith,
  omega (
    arith,
    c.loop-k.invariant.2,
    many (goal.at.put_block-at-requires c).After-unticked_block-block,
    ap (λ (xs : List ℕ). length xs) (own (goal.at.put_block-at-requires c).After-unticked_block-block),
  ),
)

pub loop-k-preserved : goal.loop-k-preserved
loop-k-preserved c =
    let put = c.put_block-at.ensures in
    let g = c.args in
    let xs = here g.s.now g.a g.end c.loop-k.k in
    let rest = onward g.s.now g.a g.end (c.loop-k.k + 1) in
    let stored = put.put ∙ ap (sets c.loop-k.list c.loop-k.at) (own (goal.at.loop-k-preserved c).After-unticked_block-block) in
    let past = put.past ∙ ap (λ (ys : List ℕ). c.loop-k.at + length ys) (own (goal.at.loop-k-preserved c).After-unticked_block-block) in
    let long = ap (λ (ys : List ℕ). length ys) stored ∙ length-sets c.loop-k.list c.loop-k.at xs in (
      omega arith,
      long ∙ c.loop-k.invariant.1,
      omega (arith, c.loop-k.invariant.2, many (goal.at.loop-k-preserved c).After-unticked_block-block, past, long),
      rw (stored, past) (sym (sets-append xs rest c.loop-k.list c.loop-k.at) ∙ ap (sets c.loop-k.list c.loop-k.at)
          (sym (split (goal.at.loop-k-preserved c).After-unticked_block-block)) ∙ c.loop-k.invariant.3),
    )

pub shape_of-list : goal.shape_of-list
shape_of-list c = c.loop-k.invariant.1

pub returns : goal.returns
returns c =
    let g = c.args in
    let none : g.end - block_bits * c.loop-k.k ≡ 0 = omega arith in
    rw (none, except-none (ticked_at g.s.now g.a) (number_at_position g.s.now g.a) (block_bits * c.loop-k.k)) at c.loop-k.invariant.3
