-- Document 01, "Telemetry secondary" and "RSR secondary": the fields of a record s. Offsets count from the start of the secondary block, as in the
-- paper. Assumes nothing.
-- The manual, docs/INTERFACE.md: "Telemetry fields", "RSR fields".
use Rattle.std.specs.Prelude.{ℕ, ◌+◌, ◌*◌, ◌%◌, Bool, cond, List, ltb, leb, ℤ, pos, ◌-ℤ◌, get_or}
use Rattle.octets.specs.Octets.{number_at}
use Rattle.sfdu.specs.declared.Kind.{Kind}
use Rattle.sfdu.specs.declared.Kind.TheVariants.{Telemetry, Rsr}
use Rattle.sfdu.specs.Nesting.{secondary_at}

-- The byte at an offset of the secondary block, and the number in `width` bytes from there.
abbrev pub byte_at : List ℕ → ℕ → ℕ
byte_at s at = get_or s (secondary_at + at) 0

abbrev pub field_at : List ℕ → (at width : ℕ) → ℕ
field_at s at width = number_at s (secondary_at + at) width

-- ---- telemetry

-- Ten bits: the lowest two of byte 6, then the eight of byte 7.
abbrev pub spacecraft : List ℕ → ℕ
spacecraft s = byte_at s 6 % 4 * 256 + byte_at s 7

abbrev pub source : List ℕ → ℕ
source s = byte_at s 10

abbrev pub received : List ℕ → ℕ
received s = field_at s 14 8

-- Document 000, section 1.5.4: the parts of these eight bytes are days from 1 January 1958, milliseconds of the day, extended resolution.
abbrev pub received_days : List ℕ → ℕ
received_days s = field_at s 14 2

abbrev pub received_milliseconds : List ℕ → ℕ
received_milliseconds s = field_at s 16 4

abbrev pub received_extended : List ℕ → ℕ
received_extended s = field_at s 20 2

abbrev pub uplink_at : ℕ
uplink_at = 26

abbrev pub uplink : List ℕ → ℕ
uplink s = byte_at s uplink_at

-- The lowest two bits of byte 28.
abbrev pub predicts_mode : List ℕ → ℕ
predicts_mode s = byte_at s 28 % 4

-- Only modes 2 and 3 have a band.
abbrev pub has_band : List ℕ → Bool
has_band s = leb 2 (predicts_mode s)

abbrev pub virtual_stream : List ℕ → ℕ
virtual_stream s = byte_at s 30

abbrev pub equipment : List ℕ → ℕ
equipment s = field_at s 74 2

-- ---- RSR

abbrev pub software : List ℕ → ℕ
software s = field_at s 6 2

abbrev pub complex : List ℕ → ℕ
complex s = byte_at s 10

abbrev pub station : List ℕ → ℕ
station s = byte_at s 11

abbrev pub receiver : List ℕ → ℕ
receiver s = byte_at s 12

abbrev pub subchannel : List ℕ → ℕ
subchannel s = byte_at s 13

abbrev pub rsr_spacecraft : List ℕ → ℕ
rsr_spacecraft s = byte_at s 15

abbrev pub pass : List ℕ → ℕ
pass s = field_at s 16 2

abbrev pub rsr_uplink_at : ℕ
rsr_uplink_at = 18

abbrev pub rsr_uplink : List ℕ → ℕ
rsr_uplink s = byte_at s rsr_uplink_at

abbrev pub downlink_at : ℕ
downlink_at = 19

abbrev pub downlink : List ℕ → ℕ
downlink s = byte_at s downlink_at

abbrev pub rsr_mode_at : ℕ
rsr_mode_at = 20

abbrev pub rsr_mode : List ℕ → ℕ
rsr_mode s = byte_at s rsr_mode_at

abbrev pub uplink_station : List ℕ → ℕ
uplink_station s = byte_at s 21

-- A byte in two's complement.
unfoldable pub signed_byte : ℕ → ℤ
signed_byte b = cond (ltb b 128) (pos b) (pos b -ℤ pos 256)

abbrev pub expected : List ℕ → ℤ
expected s = signed_byte (byte_at s 22)

abbrev pub bandwidth_at : ℕ
bandwidth_at = 23

abbrev pub bandwidth : List ℕ → ℕ
bandwidth s = byte_at s bandwidth_at

-- The override flag.
abbrev pub overridden : List ℕ → ℕ
overridden s = byte_at s 24

abbrev pub attenuation_at : ℕ
attenuation_at = 25

abbrev pub attenuation : List ℕ → ℕ
attenuation s = byte_at s attenuation_at

abbrev pub rms_at : ℕ
rms_at = 26

abbrev pub rms : List ℕ → ℕ
rms s = byte_at s rms_at

abbrev pub peak_at : ℕ
peak_at = 27

abbrev pub peak : List ℕ → ℕ
peak s = byte_at s peak_at

abbrev pub year_at : ℕ
year_at = 28

abbrev pub year : List ℕ → ℕ
year s = field_at s year_at 2

abbrev pub day_at : ℕ
day_at = 30

abbrev pub day : List ℕ → ℕ
day s = field_at s day_at 2

-- The override frequency.
abbrev pub frequency : List ℕ → ℕ
frequency s = field_at s 64 8

-- ---- both

-- The record number: bytes 22 to 25 for telemetry, 8 and 9 for RSR.
unfoldable pub record_number : Kind → List ℕ → ℕ
record_number Telemetry s = field_at s 22 4
record_number Rsr s = field_at s 8 2
