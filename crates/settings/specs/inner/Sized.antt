-- What functions on a right sheet require of it. Assumes nothing.
use Rattle.std.specs.Prelude.{ℕ, ◌≤◌, List, ◌≡◌, length}
use Rattle.settings.specs.Model.{places}
use Rattle.settings.specs.Sheet.{sheet_size, count}

pub record Sized (s : List ℕ) : Type 0 where
  pub long : length s ≡ sheet_size
  pub few : count s ≤ places
