-- How much is read of a record. Assumes nothing.
use Rattle.std.specs.Prelude.{ℕ, cond, List, nat_le}
use Rattle.sfdu.specs.Read.{record_length}
use Rattle.streaming.specs.Window.{window_size}

-- How many bytes are read of the record whose label is at the window's start.
abbrev pub wanted_of : List ℕ → ℕ
wanted_of w = cond (nat_le window_size (record_length w)) window_size (record_length w)
