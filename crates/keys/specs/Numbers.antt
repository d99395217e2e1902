-- The record numbers of a stream (document 01, "The ledger sheet"; document 02, request 03). Assumes nothing.
-- The manual, docs/INTERFACE.md: "Calls on the ledger".
use Rattle.std.specs.Prelude.{ℕ, ◌^◌, Bool, cond, ltb}
use Rattle.keys.specs.Key.{is_telemetry_key}

-- How many record numbers a stream has: 2^32 for telemetry, 65,536 for RSR.
unfoldable pub modulus : (key : ℕ) → ℕ
modulus key = cond (is_telemetry_key key) (2 ^ 32) (2 ^ 16)

-- Whether records of the stream can have the number n.
abbrev pub is_number : (key n : ℕ) → Bool
is_number key n = ltb n (modulus key)
