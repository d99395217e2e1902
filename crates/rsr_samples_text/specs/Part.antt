-- What one call writes, and what several calls write one after the other. Assumes nothing.
-- The manual, docs/INTERFACE.md: "Samples".
use Rattle.std.specs.Prelude.{ℕ, ◌≤◌, ◌<◌, Bool, List, [], ◌++◌, ℤ, length, take}
use Rattle.text.specs.Text.{Puts}
use Rattle.rsr_samples_text.specs.declared.Laid.{Laid}
use Rattle.rsr_samples_text.specs.Text.{part_text}

-- The call writes the text of the numbers from `from` up to `upto`, at the slice's start. It writes at least one number, unless `from` is the list's
-- end. The bytes behind the text are unchanged.
pub record LaysOut (raw : Bool) (zs : List ℤ) (from : ℕ) (old new : List ℕ) (r : Laid) : Type 0 where
  pub puts : Puts old new 0 r.end (part_text raw zs from r.upto)
  pub room : r.end ≤ length old
  pub least : from ≤ r.upto
  pub most : r.upto ≤ length zs
  pub goes : from < length zs → from < r.upto

-- Calls on one list. The first begins at its start; each other begins where the one before ended, and gets the slice as that left it. `upto` is how
-- far they came, `text` is what they wrote, and `out` is the slice at the end.
pub data Calls (raw : Bool) (zs : List ℤ) : (upto : ℕ) (text out : List ℕ) → Type 0 where
  begins : {out : List ℕ} → Calls raw zs 0 [] out
  lays : {from : ℕ} {text old new : List ℕ} {r : Laid} → Calls raw zs from text old → LaysOut raw zs from old new r
      → Calls raw zs r.upto (text ++ take r.end new) new
