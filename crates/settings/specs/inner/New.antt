-- Whether an entry is another one than those before it. Assumes nothing.
use Rattle.std.specs.Prelude.{ℕ, Bool, not, List}
use Rattle.settings.specs.Model.{holds}
use Rattle.settings.specs.Sheet.{setting_at, first_of}

-- No entry before entry i has its mission and first day.
abbrev pub is_new : List ℕ → ℕ → Bool
is_new s i = not (holds (setting_at s i).mission (setting_at s i).day (first_of s i))
