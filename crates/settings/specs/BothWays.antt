-- Right sheets are exactly the layouts of well-formed lists of settings. A refused call changes no byte. Assumes nothing.
-- The manual, docs/INTERFACE.md: "Mission settings".
use Rattle.std.specs.Prelude.{ℕ, true, List, [], ◌∷◌, ◌≢◌, ◌≡◌}
use Rattle.octets.specs.Octets.{AreBytes}
use Rattle.settings.specs.declared.Setting.{Setting}
use Rattle.settings.specs.Model.{add, ask, WellFormed}
use Rattle.settings.specs.Sheet.{settings_of, right}
use Rattle.settings.specs.Layout.{layout, on_sheet}

pub record BothWays : Type 0 where
  -- A right sheet holds a well-formed list of settings, and is that list's layout.
  pub holds_settings : (s : List ℕ) → AreBytes s → right s ≡ true → WellFormed (settings_of s)
  pub is_its_layout : (s : List ℕ) → AreBytes s → right s ≡ true → layout (settings_of s) ≡ s
  -- The layout of a well-formed list is a right sheet, and holds that list.
  pub is_right : (xs : List Setting) → WellFormed xs → right (layout xs) ≡ true
  pub holds_them : (xs : List Setting) → WellFormed xs → settings_of (layout xs) ≡ xs

-- A refused `add` changes no byte, and `ask` never changes one. This holds of every slice of bytes.
pub record LeavesBytes : Type 0 where
  pub refused-add : (mission edition day frame : ℕ) (s : List ℕ) → AreBytes s → (on_sheet (add mission edition day frame) s).0 ≢ 0 ∷ []
      → (on_sheet (add mission edition day frame) s).1 ≡ s
  pub any_ask : (mission day : ℕ) (s : List ℕ) → AreBytes s → (on_sheet (ask mission day) s).1 ≡ s
