-- Document 02, Req 04: refusals 51 to 54 of the header words w, in order. Assumes nothing.
-- The manual, docs/INTERFACE.md: "Medium band tapes".
use Rattle.std.specs.Prelude.{◌≡◌, ℕ, Bool, not, ◌&&◌, List, [], ◌∷◌, eqb, leb, Result, Ok, Err}
use Rattle.refusals.specs.declared.Refusal.{Refusal}
use Rattle.refusals.specs.Judge.{Rule, ◌when◌}
use Rattle.refusals.specs.Table.{number_of}
use Rattle.octets.specs.Octets.{all}
use Rattle.idr.specs.Words.{record_words, word_of}
use Rattle.idr.specs.Fields.{tagged, digit, digit_count, day, hour, minute, second, micros, playback, sampling, block_stored}

-- The number of an outcome: 0, or the refusal's number.
abbrev pub outcome_number : Result Unit Refusal → ℕ
outcome_number (Ok u) = 0
outcome_number (Err r) = number_of r

-- Different answers have different numbers.
abbrev pub DifferentOutcomes : Type 0
DifferentOutcomes = (a b : Result Unit Refusal) → outcome_number a ≡ outcome_number b → a ≡ b

unfoldable pub are_digits : List ℕ → Bool
are_digits w = all digit_count (λ k. leb (digit w k) 9)

-- The time tag's ranges: days from 1 to 366, hours below 24, minutes and seconds below 60, microseconds below 1,000,000.
unfoldable pub is_clock : (day hour minute second micros : ℕ) → Bool
is_clock day hour minute second micros =
    leb 1 day && leb day 366 && leb hour 23 && leb minute 59 && leb second 59 && leb micros 999999

unfoldable pub is_time : List ℕ → Bool
is_time w = are_digits w && is_clock (day w) (hour w) (minute w) (second w) (micros w)

-- Both rate codes are listed.
unfoldable pub are_rates : List ℕ → Bool
are_rates w = not (eqb (playback w) 0) && not (eqb (sampling w) 0)

-- The stored block size is negative.
unfoldable pub is_block : List ℕ → Bool
is_block w = leb 8388608 (block_stored w)

abbrev pub word_rules : List ℕ → List (Rule ℕ)
word_rules w =
    (51 when not (eqb (word_of w 3) record_words))
    ∷ (52 when (tagged w && not (is_time w)))
    ∷ (53 when (tagged w && not (are_rates w)))
    ∷ (54 when (tagged w && not (is_block w)))
    ∷ []
