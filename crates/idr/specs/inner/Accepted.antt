-- The header words of a record that is accepted. Assumes nothing.
use Rattle.std.specs.Prelude.{ℕ, List, ◌≡◌, Result, Ok, Err}
use Rattle.refusals.specs.declared.Refusal.{Refusal}
use Rattle.refusals.specs.Judge.{verdict}
use Rattle.refusals.specs.Table.{number_of}
use Rattle.idr.specs.Words.{header}
use Rattle.idr.specs.Read.{read_rules}

abbrev pub IsHeader : (s : List ℕ) → Result (List ℕ) Refusal → Type 0
IsHeader s (Ok w) = (w ≡ header s) × (0 ≡ verdict (read_rules s))
IsHeader s (Err r) = number_of r ≡ verdict (read_rules s)
