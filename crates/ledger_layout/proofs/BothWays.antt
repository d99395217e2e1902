-- Right sheets are exactly the layouts of well-formed books; and what `fresh` does with a slice. Assumes nothing.
use Prim.Native.Nat.{ℕ}
use mathlib.Core.List.{List, [], ◌∷◌}
use mathlib.Core.Logic.{◌≢◌}
use mathlib.Core.Path.{◌≡◌}
use borrow.Author.Tests.{eq-eqb, ne_eqb}
use lib.ListN.{length}
use Rattle.ledger_model.specs.Book.{fresh}
use Rattle.octets.proofs.Laws.{are-bytes}
use Rattle.ledger_sheet.specs.Sheet.{sheet_size}
use Rattle.ledger_layout.specs.Layout.{layout, fresh_on}
use Rattle.ledger_layout.specs.BothWays.{BothWays, FreshByLength}
use Rattle.ledger_layout.proofs.Read.{read-law, book-fine}
use Rattle.ledger_layout.proofs.Right.{reads-back, layout-right}

pub both_ways : BothWays
both_ways =
    record {
      holds_a_book = λ s bytes. book-fine s (are-bytes s bytes);
      is_its_layout = λ s bytes. read-law s (are-bytes s bytes);
      is_right = layout-right;
      holds_it = reads-back;
    }

-- ---- fresh

made-fresh : (s : List ℕ) → length s ≡ sheet_size → fresh_on s ≡ (0 ∷ [], layout fresh)
unfolding fresh_on
made-fresh s e = rw (eq-eqb (length s) sheet_size e)

left_alone : (s : List ℕ) → length s ≢ sheet_size → fresh_on s ≡ (20 ∷ [], s)
unfolding fresh_on
left_alone s n = rw (ne_eqb (length s) sheet_size n)

pub fresh-by-length : FreshByLength
fresh-by-length = record { made = made-fresh; refused = left_alone }
