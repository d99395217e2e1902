-- `make_empty` meets its contract. Assumes nothing.
use Prim.Native.Nat.{ℕ}
use native.Mathlib.Omega.{arith}
use mathlib.Core.List.{List, [], ◌∷◌}
use mathlib.Core.Path.{ap}
use lib.ListN.{length}
use borrow.Author.Tests.{eq-eqb, ne_eqb}
use Rattle.settings.specs.Sheet.{sheet_size}
use Rattle.settings.specs.Layout.{empty_on}
use Rattle.settings.proofs.Calls.{empty-written}
use Rattle.settings.proofs.make_empty.Goals as goal

pub returns-then-s-ne-SHEET : goal.returns-then-s-ne-SHEET
unfolding empty_on
returns-then-s-ne-SHEET c = rw (ne_eqb (length c.args.s.now) sheet_size (λ z. omega arith))

pub returns : goal.returns
unfolding empty_on
returns c =
    let long = c.if-s-ne-SHEET.false in
    rw (eq-eqb _ _ long, c.clear.ensures, c.write_header.ensures) (ap (λ (t : List ℕ). (0 ∷ [], t)) (empty-written _ long))
