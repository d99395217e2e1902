-- The texts of a list's parts, joined, are the text of the list. Assumes nothing.
-- The manual, docs/INTERFACE.md: "Samples".
use Rattle.std.specs.Prelude.{ℕ, ◌≤◌, Bool, List, ◌++◌, ◌≡◌, ℤ, length}
use Rattle.rsr_samples_text.specs.Text.{samples_text, part_text}
use Rattle.rsr_samples_text.specs.Part.{Calls}

-- If one part ends where the next begins, their texts joined are the text of both.
abbrev pub PartsJoin : Type 0
PartsJoin =
    (raw : Bool) (zs : List ℤ) (from mid upto : ℕ) → from ≤ mid → mid ≤ upto → mid ≤ length zs
    → part_text raw zs from mid ++ part_text raw zs mid upto ≡ part_text raw zs from upto

-- The part from the start to the end is the whole list.
abbrev pub WholePart : Type 0
WholePart = (raw : Bool) (zs : List ℤ) → part_text raw zs 0 (length zs) ≡ samples_text raw zs

-- If calls reach the end of the list, in parts of any size, their texts joined are the text of the list.
abbrev pub Promise : Type 0
Promise = (raw : Bool) (zs : List ℤ) (text out : List ℕ) → Calls raw zs (length zs) text out → text ≡ samples_text raw zs
