-- Document 01, "Stream key": the key of a stream's four numbers, which keys are valid, and the answers of three calls: the two that make a key, and
-- the one that gives a key's parts. Assumes nothing.
-- The manual, docs/INTERFACE.md: "Stream key".
use Rattle.std.specs.Prelude.{ℕ, ◌+◌, ◌*◌, ◌-◌, ◌/◌, ◌%◌, ◌^◌, Bool, cond, not, ◌&&◌, ◌||◌, List, [], ◌∷◌, leb, ltb}
use Rattle.refusals.specs.Judge.{Rule, ◌when◌, judge}

-- A telemetry key: the virtual stream from bit 0, equipment from bit 8, source from bit 24, spacecraft from bit 32.
abbrev pub telemetry_key : (spacecraft source equipment stream : ℕ) → ℕ
telemetry_key spacecraft source equipment stream = spacecraft * 2 ^ 32 + source * 2 ^ 24 + equipment * 2 ^ 8 + stream

-- The lowest RSR key. Telemetry keys lie below it.
abbrev pub rsr_start : ℕ
rsr_start = 2 ^ 42

-- The first number past the RSR keys.
abbrev pub rsr_end : ℕ
rsr_end = rsr_start + 2 ^ 32

-- An RSR key: 2^42, and above it a byte each of subchannel, receiver, station and spacecraft.
abbrev pub rsr_key : (spacecraft station receiver subchannel : ℕ) → ℕ
rsr_key spacecraft station receiver subchannel = rsr_start + spacecraft * 2 ^ 24 + station * 2 ^ 16 + receiver * 2 ^ 8 + subchannel

-- The valid keys: telemetry keys are below 2^42, RSR keys are the next 2^32 numbers.
abbrev pub is_telemetry_key : ℕ → Bool
is_telemetry_key key = ltb key rsr_start

abbrev pub is_rsr_key : ℕ → Bool
is_rsr_key key = leb rsr_start key && ltb key rsr_end

unfoldable pub valid_key : ℕ → Bool
valid_key key = is_telemetry_key key || is_rsr_key key

-- Whether a number fits a field of this many bits.
abbrev pub fits : (bits number : ℕ) → Bool
fits bits number = ltb number (2 ^ bits)

-- Telemetry's widths: 10 bits of spacecraft, 16 of equipment, 8 of source and of stream.
abbrev pub telemetry_fits : (spacecraft source equipment stream : ℕ) → Bool
telemetry_fits spacecraft source equipment stream = fits 10 spacecraft && fits 8 source && fits 16 equipment && fits 8 stream

-- RSR's widths: 8 bits each.
abbrev pub rsr_fits : (spacecraft station receiver subchannel : ℕ) → Bool
rsr_fits spacecraft station receiver subchannel = fits 8 spacecraft && fits 8 station && fits 8 receiver && fits 8 subchannel

-- The answer of a call that makes a key: 0 and the key, or the refusal's number alone.
abbrev pub made : List (Rule ℕ) → (key : ℕ) → List ℕ
made rules key = judge (λ n. n ∷ []) rules (0 ∷ key ∷ [])

-- The two calls that make a key. They answer 22 if a number does not fit its field.
unfoldable pub telemetry_key_call : (spacecraft source equipment stream : ℕ) → List ℕ
telemetry_key_call spacecraft source equipment stream =
    made
    ((22 when not (telemetry_fits spacecraft source equipment stream)) ∷ [])
    (telemetry_key spacecraft source equipment stream)

unfoldable pub rsr_key_call : (spacecraft station receiver subchannel : ℕ) → List ℕ
rsr_key_call spacecraft station receiver subchannel =
    made
    ((22 when not (rsr_fits spacecraft station receiver subchannel)) ∷ [])
    (rsr_key spacecraft station receiver subchannel)

-- The four numbers of a telemetry key, each from its bits.
abbrev pub telemetry_parts : (key : ℕ) → List ℕ
telemetry_parts key = key / 2 ^ 32 ∷ key / 2 ^ 24 % 2 ^ 8 ∷ key / 2 ^ 8 % 2 ^ 16 ∷ key % 2 ^ 8 ∷ []

-- The four numbers of the RSR key rsr_start + above.
abbrev pub rsr_parts : (above : ℕ) → List ℕ
rsr_parts above = above / 2 ^ 24 ∷ above / 2 ^ 16 % 2 ^ 8 ∷ above / 2 ^ 8 % 2 ^ 8 ∷ above % 2 ^ 8 ∷ []

-- The kinds of stream, by number.
abbrev pub telemetry_kind : ℕ
telemetry_kind = 1

abbrev pub rsr_kind : ℕ
rsr_kind = 2

-- The call that gives a key's parts: its kind, then its four numbers in the order of the call that makes the key; 22 for a key that is not valid.
unfoldable pub parts_call : (key : ℕ) → List ℕ
parts_call key =
    judge (λ n. n ∷ []) ((22 when not (valid_key key)) ∷ [])
    (0 ∷ cond (is_telemetry_key key) (telemetry_kind ∷ telemetry_parts key) (rsr_kind ∷ rsr_parts (key - rsr_start)))
