-- How many values the lower two parts of a telemetry record's received time have: two bytes, and four. Only contracts of inner functions cite this.
-- Assumes nothing.
use Rattle.std.specs.Prelude.{ℕ}

abbrev pub extended_values : ℕ
extended_values = 65536

abbrev pub millisecond_values : ℕ
millisecond_values = 4294967296
