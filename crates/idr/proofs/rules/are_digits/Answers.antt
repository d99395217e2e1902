-- `idr::rules::are_digits` meets its contract. Assumes nothing.
use mathlib.Core.Bool.{true, false}
use mathlib.Core.Path.{◌≡◌, refl}
use lib.Dec.{leb}
use borrow.Author.Tests.{tests}
use Rattle.std.proofs.Common.{rules}
use Rattle.std.proofs.lemmas.Iterator.{cases_from_all, YieldsList-from_range}
use Rattle.idr.specs.Fields.{digit, digit_count}
use Rattle.idr.specs.Rules.{are_digits}
use Rattle.idr.proofs.Ranges.{all-range}
use Rattle.idr.proofs.rules.are_digits.Goals as goal

pub returns : goal.returns
unfolding are_digits
returns c =
    let w = c.args.w.now in
    all-range digit_count (λ k. leb (digit w k) 9) c.all.result
    (cases_from_all _ _ _ (λ k. leb (digit w k) 9 ≡ true) (λ k. leb (digit w k) 9 ≡ false) c.all.ensures.ran
    (YieldsList-from_range 0 9 9 refl refl) (λ x q k. search (rules, tests)) (λ x q k. search (rules, tests)))
