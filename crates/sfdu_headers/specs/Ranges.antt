-- Document 01: the fields that read headers tests, and refusal 12, which gives the offset in the record of the lowest field that is out of range.
-- Assumes nothing.
-- The manual, docs/INTERFACE.md: "Telemetry fields", "RSR fields".
use Rattle.std.specs.Prelude.{ℕ, ◌+◌, Bool, not, ◌&&◌, ◌||◌, List, [], ◌∷◌, ◌++◌, map, eqb, leb, get_or}
use Rattle.refusals.specs.Judge.{Rule, ◌when◌}
use Rattle.sfdu.specs.declared.Kind.{Kind}
use Rattle.sfdu.specs.declared.Kind.TheVariants.{Telemetry, Rsr}
use Rattle.sfdu.specs.Nesting.{primary_value_at, secondary_at}
use Rattle.dates.specs.Calendar.{is_year, is_day}
use Rattle.sfdu_headers.specs.declared.Allowed.{Allowed}
use Rattle.sfdu_headers.specs.declared.Allowed.TheVariants.{Between, Bands}
use Rattle.sfdu_headers.specs.declared.ByteRule.{ByteRule}
use Rattle.sfdu_headers.specs.Fields.{
  uplink_at,
  uplink,
  has_band,
  year,
  day,
  rsr_uplink_at,
  downlink_at,
  rsr_mode_at,
  bandwidth_at,
  attenuation_at,
  rms_at,
  peak_at,
  year_at,
  day_at,
}

-- The letters of the bands: K, S, U, X.
abbrev pub letter_k : ℕ
letter_k = 75

abbrev pub letter_s : ℕ
letter_s = 83

abbrev pub letter_u : ℕ
letter_u = 85

abbrev pub letter_x : ℕ
letter_x = 88

-- The bands of an RSR record are S, X and K. A telemetry record can also have U.
unfoldable pub is_rsr_band : ℕ → Bool
is_rsr_band b = eqb b letter_s || eqb b letter_x || eqb b letter_k

unfoldable pub is_band : ℕ → Bool
is_band b = eqb b letter_u || is_rsr_band b

unfoldable pub in_range : Allowed → ℕ → Bool
in_range (Between low high) b = leb low b && leb b high
in_range Bands b = is_rsr_band b

-- The bytes of an RSR record that are tested, lowest first: the primary's major class, minor class and format; then uplink and downlink band, mode,
-- bandwidth, attenuation, RMS and peak.
unfoldable pub judged_bytes : List ByteRule
judged_bytes =
    record { at = primary_value_at; allowed = Between 21 21 }
    ∷ record { at = primary_value_at + 1; allowed = Between 4 4 }
    ∷ record { at = primary_value_at + 3; allowed = Between 0 0 }
    ∷ record { at = secondary_at + rsr_uplink_at; allowed = Bands }
    ∷ record { at = secondary_at + downlink_at; allowed = Bands }
    ∷ record { at = secondary_at + rsr_mode_at; allowed = Between 1 3 }
    ∷ record { at = secondary_at + bandwidth_at; allowed = Between 1 127 }
    ∷ record { at = secondary_at + attenuation_at; allowed = Between 0 63 }
    ∷ record { at = secondary_at + rms_at; allowed = Between 0 128 }
    ∷ record { at = secondary_at + peak_at; allowed = Between 0 128 }
    ∷ []

abbrev pub byte_rule : List ℕ → ByteRule → Rule ℕ
byte_rule s f = f.at when not (in_range f.allowed (get_or s f.at 0))

abbrev pub byte_rules : List ℕ → List (Rule ℕ)
byte_rules s = map (byte_rule s) judged_bytes

-- Year and day of the ADC reading: years 1900 to 3000, days 1 to 365, in a leap year 366 (document 02, Req 01).
abbrev pub date_rules : List ℕ → List (Rule ℕ)
date_rules s = ((secondary_at + year_at) when not (is_year (year s))) ∷ ((secondary_at + day_at) when not (is_day (year s) (day s))) ∷ []

-- For each tested field, lowest first: its offset, if it is out of range.
abbrev pub field_rules : Kind → List ℕ → List (Rule ℕ)
field_rules Telemetry s = ((secondary_at + uplink_at) when (has_band s && not (is_band (uplink s)))) ∷ []
field_rules Rsr s = byte_rules s ++ date_rules s
