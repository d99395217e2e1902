-- The numbers of a season for C (document 02, Req 13 and Req 06): the numbers in all. Those of each sheet are too many. Assumes nothing.
use Rattle.std.specs.Prelude.{ℕ}

-- How many numbers an accepted season has: 0, the count of sheets, three counts in all, three numbers of the gap.
abbrev pub in_all_count : ℕ
in_all_count = 8
