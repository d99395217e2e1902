-- `old::are_rows` meets its contract. The invariant: the first i keys are in the array, and the three flags are right for them. Assumes nothing.
use Prim.Native.Nat.{ℕ, ◌≤◌, ◌<◌, ◌-◌}
use mathlib.Core.Bool.{not}
use mathlib.Core.Path.{◌≡◌}
use lib.Dec.{eqb}
use lib.ListN.{length, get_or}
use Rattle.octets.specs.Octets.{all}
use Rattle.keys.specs.Key.{valid_key}
use Rattle.keys.specs.Numbers.{is_number}
use Rattle.ledger_sheet.specs.Sheet.{row_count}
use Rattle.ledger_convert.specs.Old.{row_at, key_at, first_number_at}
use Rattle.ledger_convert.proofs.old.are_rows.Given as goal

abbrev pub invariant-loop-i : goal.invariant-loop-i
invariant-loop-i l =
    (l.i ≤ l.used) × (length l.keys ≡ row_count) × ((j : ℕ) → j < l.i → get_or l.keys j 0 ≡ key_at l.s (row_at j))
    × (l.valid ≡ all l.i (λ k. valid_key (key_at l.s (row_at k)))) ×
    (l.different ≡ all l.i (λ k. all k (λ j. not (eqb (key_at l.s (row_at j)) (key_at l.s (row_at k))))))
    × (l.numbers ≡ all l.i (λ k. is_number (key_at l.s (row_at k)) (first_number_at l.s (row_at k))))

abbrev pub decreases-loop-i : goal.decreases-loop-i
decreases-loop-i l = l.used - l.i
