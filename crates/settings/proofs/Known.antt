-- A setting that is found on a right sheet has a known edition. Assumes nothing.
use Prim.Native.Nat.{ℕ, zero, suc, ◌<◌, suc-le-suc}
use native.Mathlib.Nat.{zero-lt-suc}
use mathlib.Core.Bool.{true}
use mathlib.Core.List.Memᴰ
use mathlib.Core.List.{List, Memᴰ}
use mathlib.Core.Path.{◌≡◌, sym, subst}
use Rattle.laws.proofs.Bools.{and_split}
use Rattle.octets.specs.Lists.{table}
use Rattle.octets.proofs.Laws.{all-at}
use Rattle.settings.specs.declared.Setting.{Setting}
use Rattle.std.specs.Prelude.{Some, None}
use Rattle.settings.specs.Model.{known, latest}
use Rattle.settings.specs.Sheet.{setting_at, settings_of, entries_right, entry_right, count, right}
use Rattle.settings.proofs.Clauses.{right-parts}
use Rattle.settings.proofs.Latest.{latest-each}

-- what holds of each entry of a table holds of each of its members
table-each : (P : Setting → Type 0) (n : ℕ) (f : ℕ → Setting) → ((i : ℕ) → i < n → P (f i)) → (y : Setting) → Memᴰ y (table n f) → P y
unfolding table
table-each P zero f h y m = absurd (Memᴰ.not-nil m)
table-each P (suc n) f h y (Memᴰ.head e) = subst P (sym e) (h 0 (zero-lt-suc n))
table-each P (suc n) f h y (Memᴰ.tail m) = table-each P n (λ i. f (suc i)) (λ i l. h (suc i) (suc-le-suc l)) y m

entry_known : (s : List ℕ) → right s ≡ true → (i : ℕ) → i < count s → known (setting_at s i).edition ≡ true
unfolding entries_right entry_right
entry_known s r i l = (and_split (known (setting_at s i).edition) _ (all-at (count s) i _ (right-parts s r).entries l)).0

pub found-known : (m d : ℕ) (s : List ℕ) (x : Setting) → right s ≡ true → latest m d (settings_of s) ≡ Some x → known x.edition ≡ true
found-known m d s x r e =
    let each = table-each (λ y. known y.edition ≡ true) (count s) (setting_at s) (entry_known s r) in
    (rw e at (latest-each m d (λ y. known y.edition ≡ true) None (settings_of s) tt each)).1
