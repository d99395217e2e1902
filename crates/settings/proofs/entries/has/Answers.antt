-- `entries::has` meets its contract. Assumes nothing.
use mathlib.Core.Bool.{Bool, false, ◌||◌, or-false, or_assoc}
use Rattle.std.proofs.Common.{sym, ◌≡◌, ℕ, zero, suc, ◌+◌, ◌-◌, refl, ap, ◌∙◌, add-zero, zero-add, arith, rules}
use borrow.Author.Tests.{tests}
use Rattle.std.specs.List.{fold, range_with_len}
use Rattle.std.proofs.lemmas.Iterator.{YieldsList-from_range}
use Rattle.std.proofs.lemmas.Iterator.Consumers.{fold_from_yields_List}
use Rattle.octets.specs.Lists.{table}
use Rattle.settings.specs.declared.Setting.{Setting}
use Rattle.settings.specs.Model.{is_of, holds}
use Rattle.settings.specs.Sheet.{setting_at}
use Rattle.settings.proofs.entries.has.Goals as goal

-- Whether one was found before, or one of the settings f a, f (a + 1), .. has the mission and the day; g has them from 0 on.
fold-holds : (mission day a n : ℕ) (found : Bool) (f g : ℕ → Setting) → ((i : ℕ) → f (a + i) ≡ g i)
    → fold (λ b k. b || is_of mission day (f k)) found (range_with_len a n) ≡ (found || holds mission day (table n g))
unfolding holds table
fold-holds mission day a zero found f g same = sym (or-false found)
fold-holds mission day a (suc n) found f g same =
    let first : f a ≡ g 0 = rw add-zero at (same 0) in
    let next : (i : ℕ) → f (a + 1 + i) ≡ g (suc i) = λ i. let e : a + 1 + i ≡ a + suc i = omega arith in ap f e ∙ same (suc i) in
    rw (← first) (fold-holds mission day (a + 1) n (found || is_of mission day (f a)) f (λ i. g (suc i)) next ∙ or_assoc found _ _)

pub returns : goal.returns
returns c =
    let s = c.args.s.now in
    let m = c.args.mission in
    let d = c.args.day in
    let whole : c.args.n - 0 ≡ c.args.n = omega arith in
    fold_from_yields_List _ (λ b k. b || is_of m d (setting_at s k)) false _ c.fold.ensures.ran (YieldsList-from_range 0 c.args.n c.args.n refl whole)
    (λ b x r q k. search (rules, tests))
    ∙ fold-holds m d 0 c.args.n false (setting_at s) (setting_at s) (λ i. ap (setting_at s) (zero-add i))
