-- `right::are_entries` meets its contract. Assumes nothing.
use Rattle.std.proofs.Common.{◌≡◌, ℕ, zero, suc, ◌-◌, true, false, not, [], ◌∷◌, ◌++◌, add-one, refl, arith, rules}
use borrow.Author.Tests.{tests}
use Rattle.std.proofs.lemmas.Iterator.{cases_from_all, YieldsList-from_range}
use Rattle.octets.specs.Octets.{all}
use Rattle.octets.specs.Lists.{table}
use Rattle.octets.proofs.Lists.{table_none, table_more}
use Rattle.settings.specs.declared.Setting.{Setting}
use Rattle.settings.specs.Model.{holds, different}
use Rattle.settings.specs.Sheet.{setting_at, entry_at, entry_right, entries_right}
use Rattle.settings.specs.inner.New.{is_new}
use Rattle.settings.proofs.Model.{different-more}
use Rattle.settings.proofs.Ranges.{all-range}
use Rattle.settings.proofs.right.are_entries.Goals as goal

-- The first n settings differ if each is new.
all-different : (n : ℕ) (f : ℕ → Setting) → all n (λ i. not (holds (f i).mission (f i).day (table i f))) ≡ different (table n f)
unfolding all different
all-different zero f = rw table_none
all-different (suc n) f =
    let more : table (suc n) f ≡ table n f ++ (f n ∷ []) = rw add-one at (table_more n f) in
    rw (more, different-more, all-different n f)

pub returns : goal.returns
unfolding entries_right
returns c =
    let s = c.args.s.now in
    let n = c.count-used.result in
    let whole : n - 0 ≡ n = omega arith in
    let fine = all-range n (λ i. entry_right s (entry_at i)) _
    (cases_from_all _ _ _ (λ i. entry_right s (entry_at i) ≡ true) (λ i. entry_right s (entry_at i) ≡ false) c.all-fine.ensures.ran
    (YieldsList-from_range 0 n n refl whole) (λ x q k. search (rules, tests)) (λ x q k. search (rules, tests))) in
    let new = all-range n (is_new s) _
    (cases_from_all _ _ _ (λ i. is_new s i ≡ true) (λ i. is_new s i ≡ false) c.all-differ.ensures.ran
    (YieldsList-from_range 0 n n refl whole) (λ x q k. search (rules, tests)) (λ x q k. search (rules, tests))) in
    rw (← c.count-used.ensures, fine, new, all-different n (setting_at s))
