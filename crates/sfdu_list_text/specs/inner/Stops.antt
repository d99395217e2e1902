-- What stands at a place, by the program's rules, as inner functions give it. Assumes nothing.
use Rattle.std.specs.Prelude.{ℕ, Bool, List}
use Rattle.sfdu_stream.specs.Walk.{whole_by, refusal_by}
use Rattle.sfdu_list_text.specs.Listing.{list_rules, or_zero}

-- Whether a whole record stands there: no rule holds.
unfoldable pub whole : List ℕ → Bool
whole s = whole_by list_rules s

unfoldable pub stop_words : (place : ℕ) → List ℕ → List ℕ
stop_words place s = or_zero (refusal_by list_rules place s)
