-- Right sheets are exactly the layouts of well-formed lists of settings; and a refused call changes no byte. Assumes nothing.
use Prim.Native.Nat.{ℕ}
use mathlib.Core.Bool.{Bool, true, false}
use mathlib.Core.List.{List, [], ◌∷◌, ◌++◌}
use mathlib.Core.Logic.{◌≢◌}
use mathlib.Core.Path.{◌≡◌, refl, ap}
use Rattle.refusals.specs.Judge.{Rule}
use Rattle.refusals.proofs.Judged as J
use Rattle.octets.specs.Octets.{AreBytes}
use Rattle.octets.proofs.Laws.{are-bytes}
use Rattle.settings.specs.declared.Setting.{Setting}
use Rattle.settings.specs.Model.{Outcome, add_rules, add, ask}
use Rattle.settings.specs.Sheet.{settings_of, right}
use Rattle.settings.specs.Layout.{on_sheet}
use Rattle.settings.specs.BothWays.{BothWays, LeavesBytes}
use Rattle.settings.proofs.Sheets.{read-law, read-fine, reads-back, layout-right}

pub both_ways : BothWays
both_ways =
    record {
      holds_settings = λ s bytes. read-fine s (are-bytes s bytes);
      is_its_layout = λ s bytes. read-law s (are-bytes s bytes);
      is_right = layout-right;
      holds_them = reads-back;
    }

-- ---- what is left of a sheet

-- A call of the model that leaves the list leaves the sheet.
same-list : (f : List Setting → Outcome) (s : List ℕ) → AreBytes s → (right s ≡ true → (f (settings_of s)).1 ≡ settings_of s) → (on_sheet f s).1 ≡ s
unfolding on_sheet
same-list f s bytes same = by (right s) refl
  where
    by : (b : Bool) → right s ≡ b → (on_sheet f s).1 ≡ s
    by true r = rw (r, same r) (read-law s (are-bytes s bytes) r)
    by false r = rw r

-- An add that is not accepted leaves the list.
add-refused : (m e d f : ℕ) (xs : List Setting) → (add m e d f xs).0 ≢ 0 ∷ [] → (add m e d f xs).1 ≡ xs
unfolding add
add-refused m e d f xs other = by (J.outcome rules)
  where
    rules : List (Rule ℕ)
    rules = add_rules m e d xs

    more : Outcome
    more = (0 ∷ [], xs ++ (record { mission = m; edition = e; day = d; frame = f } ∷ []))

    by : J.Outcome rules → (add m e d f xs).1 ≡ xs
    by (J.none n) = absurd (other (ap (λ (o : Outcome). o.0) (J.none-judge {B = Outcome} (λ n. (n ∷ [], xs)) rules more n)))
    by (J.first g w) = ap (λ (o : Outcome). o.1) (J.first-judge {B = Outcome} (λ n. (n ∷ [], xs)) more w)

refused-add : (m e d f : ℕ) (s : List ℕ) → AreBytes s → (on_sheet (add m e d f) s).0 ≢ 0 ∷ [] → (on_sheet (add m e d f) s).1 ≡ s
unfolding on_sheet
refused-add m e d f s bytes other =
    same-list (add m e d f) s bytes (λ r. add-refused m e d f (settings_of s) (λ a. other (rw r a)))

pub leaves-bytes : LeavesBytes
unfolding ask
leaves-bytes = record { refused-add = refused-add; any_ask = λ m d s bytes. same-list (ask m d) s bytes (λ r. refl) }
