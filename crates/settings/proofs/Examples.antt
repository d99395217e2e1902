-- A worked example: mission 7 has a setting from day 100 and one from day 200, the later one added first; mission 8 has one from day 150.
-- Assumes nothing.
use Prim.Native.Nat.{ℕ}
use mathlib.Core.List.{List, [], ◌∷◌}
use mathlib.Core.Path.{◌≡◌, refl}
use lib.ListN.{length, take}
use Rattle.refusals.specs.Judge.{judge}
use Rattle.octets.specs.Octets.{bytes_of}
use Rattle.settings.specs.declared.Setting.{Setting}
use Rattle.octets.specs.Lists.{laid}
use Rattle.settings.specs.Fields.{field_bytes}
use Rattle.settings.specs.Model.{holds, picked, latest_from, add, ask}
use Rattle.settings.specs.Layout.{entry_bytes, layout}

abbrev three : List Setting
three =
    record { mission = 7; edition = 2; day = 200; frame = 1024 }
    ∷ record { mission = 8; edition = 1; day = 150; frame = 512 }
    ∷ record { mission = 7; edition = 1; day = 100; frame = 1000 }
    ∷ []

unfoldable pub calls : (mission day : ℕ) → List ℕ
calls mission day = (ask mission day (add 7 1 100 1000 (add 8 1 150 512 (add 7 2 200 1024 []).1).1).1).0

-- before the first, on it, between, on the second, after; the other mission; a mission with none
pub asked : calls 7 99 ∷ calls 7 100 ∷ calls 7 199 ∷ calls 7 200 ∷ calls 7 402131 ∷ calls 8 199 ∷ calls 9 199 ∷ []
    ≡ (47 ∷ []) ∷ (0 ∷ 1 ∷ 100 ∷ 1000 ∷ []) ∷ (0 ∷ 1 ∷ 100 ∷ 1000 ∷ []) ∷ (0 ∷ 2 ∷ 200 ∷ 1024 ∷ []) ∷ (0 ∷ 2 ∷ 200 ∷ 1024 ∷ [])
    ∷ (0 ∷ 1 ∷ 150 ∷ 512 ∷ []) ∷ (47 ∷ []) ∷ []
unfolding calls add ask judge holds picked latest_from
asked = refl

-- refused: edition 3, also where mission and day are there already; the same mission and day
pub refusals : (add 7 3 200 1 three).0 ∷ (add 7 0 300 1 three).0 ∷ (add 7 1 200 1 three).0 ∷ (add 8 1 200 1 three).0 ∷ []
    ≡ (44 ∷ []) ∷ (44 ∷ []) ∷ (45 ∷ []) ∷ (0 ∷ []) ∷ []
unfolding add judge holds
refusals = refl

-- the header, the first entry and the start of the second, byte for byte; the sheet's length
pub bytes : take 30 (layout three)
    ≡ 0 ∷ 0 ∷ 3 ∷ 16 ∷ 0 ∷ 0 ∷ 0 ∷ 3 ∷ 0 ∷ 0 ∷ 0 ∷ 64 ∷ 0 ∷ 0 ∷ 0 ∷ 16 ∷ 7 ∷ 2 ∷ 0 ∷ 0 ∷ 0 ∷ 0 ∷ 0 ∷ 200 ∷ 0 ∷ 0 ∷ 4 ∷ 0 ∷ 8 ∷ 1 ∷ []
unfolding layout laid entry_bytes field_bytes bytes_of
bytes = refl

pub size : length (layout three) ≡ 784
unfolding layout laid entry_bytes field_bytes bytes_of
size = refl
