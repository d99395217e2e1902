-- What holds of the calls beyond their contracts. Assumes nothing.
-- The manual, docs/INTERFACE.md: "Mission settings".
use Rattle.std.specs.Prelude.{ℕ, ◌≤◌, ◌<◌, ◌^◌, true, ◌≢◌, ◌≡◌}
use mathlib.Core.List.{List, [], ◌∷◌, Memᴰ}
use Rattle.octets.specs.Octets.{AreBytes}
use Rattle.settings.specs.declared.Setting.{Setting}
use Rattle.std.specs.Prelude.{Option, Some, None}
use Rattle.settings.specs.Model.{latest, add, ask, WellFormed}
use Rattle.settings.specs.Sheet.{settings_of, right}
use Rattle.settings.specs.Layout.{on_sheet}

-- ---- which setting is in force on a day

pub record OldEnough (mission day : ℕ) (x : Setting) : Type 0 where
  pub of_mission : x.mission ≡ mission
  pub not_after : x.day ≤ day

pub record IsLatest (mission day : ℕ) (xs : List Setting) (x : Setting) : Type 0 where
  pub there : Memᴰ x xs
  pub old_enough : OldEnough mission day x
  pub none_later : (y : Setting) → Memᴰ y xs → OldEnough mission day y → y.day ≤ x.day

-- The setting in force: the mission's latest that is not after the day; None if there is none.
abbrev pub Finds : (mission day : ℕ) → List Setting → Option Setting → Type 0
Finds mission day xs None = (y : Setting) → Memᴰ y xs → OldEnough mission day y → ⊥
Finds mission day xs (Some x) = IsLatest mission day xs x

-- `latest` finds it in any list. `ask` gives its words.
abbrev pub EveryFind : Type 0
EveryFind = (mission day : ℕ) (xs : List Setting) → Finds mission day xs (latest mission day xs)

-- ---- `add` on any slice of bytes: s before, t after

abbrev pub answer_to : (mission day : ℕ) → List ℕ → List ℕ
answer_to mission day s = (on_sheet (ask mission day) s).0

pub record Added (mission edition day frame : ℕ) (s t : List ℕ) : Type 0 where
  -- A new setting changes no answer for days before its first day, and none for other missions.
  pub keeps_earlier : (m d : ℕ) → d < day → answer_to m d t ≡ answer_to m d s
  pub keeps_others : (m d : ℕ) → m ≢ mission → answer_to m d t ≡ answer_to m d s
  -- `ask` gives an accepted setting on its first day.
  pub gives : (on_sheet (add mission edition day frame) s).0 ≡ 0 ∷ [] → answer_to mission day t ≡ 0 ∷ edition ∷ day ∷ frame ∷ []
  pub stays-right : right s ≡ true → right t ≡ true

-- This holds of every slice of bytes, whether `add` accepts the setting or not. The numbers fit the types of its arguments.
abbrev pub EveryAdd : Type 0
EveryAdd =
    (mission edition day frame : ℕ) (s : List ℕ) → AreBytes s → mission < 256 ^ 1 → day < 256 ^ 4 → frame < 256 ^ 4
    → Added mission edition day frame s (on_sheet (add mission edition day frame) s).1

-- ---- the order of adding does not matter

-- The same settings, in any order.
pub record SameSettings (xs ys : List Setting) : Type 0 where
  pub forth : (x : Setting) → Memᴰ x xs → Memᴰ x ys
  pub back : (x : Setting) → Memᴰ x ys → Memᴰ x xs

-- The settings of a list, added one after the other.
unfoldable pub add_each : (start : List Setting) → List Setting → List Setting
add_each start [] = start
add_each start (x ∷ xs) = add_each (add x.mission x.edition x.day x.frame start).1 xs

-- Adding a well-formed list of settings to none gives that list.
abbrev pub AllThere : Type 0
AllThere = (xs : List Setting) → WellFormed xs → add_each [] xs ≡ xs

-- The order in which settings were added changes no answer. Their order in a right sheet changes none.
abbrev pub AnyOrder : Type 0
AnyOrder =
    (xs ys : List Setting) → WellFormed xs → WellFormed ys → SameSettings xs ys
    → (mission day : ℕ) → (ask mission day (add_each [] xs)).0 ≡ (ask mission day (add_each [] ys)).0

abbrev pub AnyPlaces : Type 0
AnyPlaces =
    (s t : List ℕ) → right s ≡ true → right t ≡ true → SameSettings (settings_of s) (settings_of t)
    → (mission day : ℕ) → answer_to mission day s ≡ answer_to mission day t
