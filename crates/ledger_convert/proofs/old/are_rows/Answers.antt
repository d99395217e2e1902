-- `old::are_rows` meets its contract. The invariant: the first i keys are in the array, and the three flags are right for them. Assumes nothing.
use Rattle.ledger_convert.proofs.Ranges.{read_more, read-test}
use Rattle.ledger_sheet.proofs.RowsRead.{front-other}
use Prim.Native.Nat.{ℕ}
use mathlib.Core.Bool.{not}
use mathlib.Core.Path.{◌≡◌, refl, sym}
use native.Mathlib.Omega.{arith}
use lib.Dec.{eqb}
use lib.ListN.{length-set}
use Rattle.octets.proofs.Laws.{all_none, all-next}
use Rattle.ledger_convert.specs.Old.{row_at, key_at, valid_keys, different_keys, first_numbers}
use Rattle.ledger_convert.proofs.old.are_rows.Goals as goal

pub loop-i-init : goal.loop-i-init
loop-i-init c = (omega arith, refl, (λ j l. absurd (omega arith)), sym (all_none _), sym (all_none _), sym (all_none _))

pub valid-valid-requires : goal.valid-valid-requires
valid-valid-requires c = tt

pub is_number-numbers-requires : goal.is_number-numbers-requires
is_number-numbers-requires c = tt

pub loop-i-preserved : goal.loop-i-preserved
loop-i-preserved c =
    let s = c.args.s.now in
    let key = rw c.row_at-row.ensures at c.key_at-key.ensures in
    let first = rw c.row_at-row.ensures at c.first_at.ensures in
    let keys : ℕ → ℕ = λ j. key_at s (row_at j) in (
      omega arith,
      (simp length-set c.loop-i.invariant.1),
      read_more keys c.loop-i.keys c.loop-i.i _ c.loop-i.invariant.2 key (omega arith),
      rw (all-next, ← c.loop-i.invariant.3, ← key, ← c.valid-valid.ensures),
      rw (
        all-next,
        ← c.loop-i.invariant.4,
        ← read-test keys c.loop-i.keys c.loop-i.i _ c.loop-i.invariant.2 key
            (λ a b. not (eqb a b)),
        ← front-other c.loop-i.keys c.loop-i.i c.key_at-key.result (omega (arith, c.loop-i.invariant.1)),
        ← c.is_other-different.ensures,
      ),
      rw (all-next, ← c.loop-i.invariant.5, ← key, ← first, ← c.is_number-numbers.ensures),
    )

pub returns : goal.returns
unfolding valid_keys different_keys first_numbers
returns c =
    let e : c.loop-i.i ≡ c.rows_used-used.result = omega arith in
    rw (← c.rows_used-used.ensures, ← e, c.loop-i.invariant.3, c.loop-i.invariant.4, c.loop-i.invariant.5)
