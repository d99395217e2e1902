-- A rate that is 0 where its code is not listed. Assumes nothing.
use Rattle.std.specs.Prelude.{ℕ, cond, eqb, Option, Some, None}

abbrev pub listed : (rate : ℕ) → Option ℕ
listed rate = cond (eqb rate 0) None (Some rate)
