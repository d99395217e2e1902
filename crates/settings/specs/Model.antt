-- Document 02, Req 14, "Mission agreements": the settings as a list in the order of adding, and the calls on it. Assumes nothing.
-- The manual, docs/INTERFACE.md: "Mission settings".
use Rattle.std.specs.Prelude.{ℕ, ◌≤◌, ◌<◌, ◌^◌, Bool, true, false, not, cond, ◌&&◌, ◌||◌, List, [], ◌∷◌, ◌++◌, ◌≡◌, eqb, ltb, leb, length}
use Rattle.refusals.specs.Judge.{Rule, ◌when◌, judge}
use Rattle.settings.specs.declared.Setting.{Setting}
use Rattle.std.specs.Prelude.{Option, Some, None}

-- How many settings a sheet has room for.
abbrev pub places : ℕ
places = 64

-- The editions: 1 is old, 2 is new.
abbrev pub known : (edition : ℕ) → Bool
known edition = eqb edition 1 || eqb edition 2

-- ---- a mission has at most one setting for a first day

abbrev pub is_of : (mission day : ℕ) → Setting → Bool
is_of mission day x = eqb x.mission mission && eqb x.day day

unfoldable pub holds : (mission day : ℕ) → List Setting → Bool
holds mission day [] = false
holds mission day (x ∷ xs) = is_of mission day x || holds mission day xs

unfoldable pub different : List Setting → Bool
different [] = true
different (x ∷ xs) = not (holds x.mission x.day xs) && different xs

-- ---- the setting in force on a day: the latest that began on or before it

abbrev pub is_later : Option Setting → (day : ℕ) → Bool
is_later None day = true
is_later (Some y) day = ltb y.day day

-- The better of the best so far and one more setting.
unfoldable pub picked : (mission day : ℕ) → Option Setting → Setting → Option Setting
picked mission day best x = cond (eqb x.mission mission && leb x.day day && is_later best x.day) (Some x) best

unfoldable pub latest_from : (mission day : ℕ) → Option Setting → List Setting → Option Setting
latest_from mission day best [] = best
latest_from mission day best (x ∷ xs) = latest_from mission day (picked mission day best x) xs

abbrev pub latest : (mission day : ℕ) → List Setting → Option Setting
latest mission day xs = latest_from mission day None xs

-- ---- the calls: the words of the answer, and the settings after the call

abbrev pub Outcome : Type 0
Outcome = List ℕ × List Setting

-- 44: no such edition. 45: the mission has a setting for that first day. 46: no place is left.
abbrev pub add_rules : (mission edition day : ℕ) → List Setting → List (Rule ℕ)
add_rules mission edition day xs =
    (44 when not (known edition)) ∷ (45 when holds mission day xs) ∷ (46 when eqb (length xs) places) ∷ []

-- Adds the setting at the end of the list.
unfoldable pub add : (mission edition day frame : ℕ) → List Setting → Outcome
add mission edition day frame xs =
    judge (λ n. (n ∷ [], xs)) (add_rules mission edition day xs)
    (0 ∷ [], xs ++ (record { mission = mission; edition = edition; day = day; frame = frame } ∷ []))

-- 47: no setting of the mission began on or before the day.
abbrev pub is_missing : Option Setting → Bool
is_missing None = true
is_missing (Some x) = false

abbrev pub ask_rules : Option Setting → List (Rule ℕ)
ask_rules found = (47 when is_missing found) ∷ []

-- Edition, first day, frame length.
abbrev pub setting_words : Option Setting → List ℕ
setting_words None = []
setting_words (Some x) = x.edition ∷ x.day ∷ x.frame ∷ []

abbrev pub found_words : Option Setting → List ℕ
found_words found = judge (λ n. n ∷ []) (ask_rules found) (0 ∷ setting_words found)

unfoldable pub ask : (mission day : ℕ) → List Setting → Outcome
ask mission day xs = (found_words (latest mission day xs), xs)

-- ---- well-formed lists: what the calls make

-- The fields of a setting have allowed values.
pub record Fine (x : Setting) : Type 0 where
  pub mission_fits : x.mission < 256 ^ 1
  pub edition_known : known x.edition ≡ true
  pub day_fits : x.day < 256 ^ 4
  pub frame_fits : x.frame < 256 ^ 4

abbrev pub AllFine : List Setting → Type 0
AllFine [] = Unit {0}
AllFine (x ∷ xs) = Fine x × AllFine xs

pub record WellFormed (xs : List Setting) : Type 0 where
  pub few : length xs ≤ places
  pub fine : AllFine xs
  pub differ : different xs ≡ true
