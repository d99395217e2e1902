-- Widths of fields. Assumes nothing.
use Rattle.std.specs.Prelude.{ℕ, ◌+◌, List, [], ◌∷◌}
use Rattle.settings.specs.Fields.{Field, ◌holding◌}

-- How many bytes the fields have together.
abbrev pub width_of : List Field → ℕ
width_of [] = 0
width_of ((w holding v) ∷ fs) = w + width_of fs
