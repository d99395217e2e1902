-- The editions of document 004: 1 is old, 2 is new. Assumes nothing.
-- The manual, docs/INTERFACE.md: "Mission settings".
use Rattle.std.specs.Prelude.{ℕ}
use Rattle.settings.specs.declared.Edition.{Edition}
use Rattle.settings.specs.declared.Edition.TheVariants.{Old, New}

abbrev pub edition_number : Edition → ℕ
edition_number Old = 1
edition_number New = 2
