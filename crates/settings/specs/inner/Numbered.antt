-- The edition that a number names. Assumes nothing.
use Rattle.std.specs.Prelude.{ℕ, cond, eqb, Result, Ok, Err}
use Rattle.refusals.specs.declared.Refusal.{Refusal}
use Rattle.refusals.specs.declared.Refusal.TheVariants.{UnknownEdition}
use Rattle.settings.specs.declared.Edition.{Edition}
use Rattle.settings.specs.declared.Edition.TheVariants.{Old, New}

-- The edition with a number. Any other number is refused.
abbrev pub edition_of : (number : ℕ) → Result Edition Refusal
edition_of number = cond (eqb number 1) (Ok Old) (cond (eqb number 2) (Ok New) (Err UnknownEdition))
