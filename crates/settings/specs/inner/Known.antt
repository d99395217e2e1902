-- What `tell` requires of the setting that it tells. Assumes nothing.
use Rattle.std.specs.Prelude.{true, ◌≡◌, Option, Some, None}
use Rattle.settings.specs.declared.Setting.{Setting}
use Rattle.settings.specs.Model.{known}

-- The setting, if there is one, has a known edition.
abbrev pub IsKnown : Option Setting → Type 0
IsKnown None = Unit {0}
IsKnown (Some x) = known x.edition ≡ true
