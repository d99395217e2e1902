-- `entries::latest` meets its contract. Assumes nothing.
use Rattle.std.proofs.Common.{◌≡◌, ℕ, zero, suc, ◌+◌, ◌-◌, refl, ap, ◌∙◌, add-zero, zero-add, arith, rules}
use borrow.Author.Tests.{tests}
use Rattle.std.specs.Prelude.{Option, None}
use Rattle.std.specs.List.{fold, range_with_len}
use Rattle.std.proofs.lemmas.Iterator.{YieldsList-from_range}
use Rattle.std.proofs.lemmas.Iterator.Consumers.{fold_from_yields_List}
use Rattle.octets.specs.Lists.{table}
use Rattle.settings.specs.declared.Setting.{Setting}
use Rattle.settings.specs.Model.{picked, latest_from}
use Rattle.settings.specs.Sheet.{setting_at}
use Rattle.settings.proofs.entries.latest.Goals as goal

-- The latest of the best so far and the settings f a, f (a + 1), ..; g has them from 0 on.
fold-latest : (mission day a n : ℕ) (best : Option Setting) (f g : ℕ → Setting) → ((i : ℕ) → f (a + i) ≡ g i)
    → fold (λ b k. picked mission day b (f k)) best (range_with_len a n) ≡ latest_from mission day best (table n g)
unfolding latest_from table
fold-latest mission day a zero best f g same = refl
fold-latest mission day a (suc n) best f g same =
    let first : f a ≡ g 0 = rw add-zero at (same 0) in
    let next : (i : ℕ) → f (a + 1 + i) ≡ g (suc i) = λ i. let e : a + 1 + i ≡ a + suc i = omega arith in ap f e ∙ same (suc i) in
    rw (← first) (fold-latest mission day (a + 1) n (picked mission day best (f a)) f (λ i. g (suc i)) next)

pub returns : goal.returns
returns c =
    let s = c.args.s.now in
    let m = c.args.mission in
    let d = c.args.day in
    let n = c.count.result in
    let whole : n - 0 ≡ n = omega arith in
    rw (← c.count.ensures)
    (fold_from_yields_List _ (λ b k. picked m d b (setting_at s k)) None _ c.fold.ensures.ran (YieldsList-from_range 0 n n refl whole)
    (λ b x r q k. search (rules, tests))
    ∙ fold-latest m d 0 n None (setting_at s) (setting_at s) (λ i. ap (setting_at s) (zero-add i)))
