-- The key that read headers gives is the one that the key calls make. Assumes nothing.
-- The manual, docs/INTERFACE.md: "Stream key".
use Rattle.std.specs.Prelude.{ℕ, ◌<◌, true, List, [], ◌∷◌, ◌≡◌, get_or}
use Rattle.keys.specs.Key.{valid_key}
use Rattle.keys.specs.Stream.{Stream, telemetry, rsr, key_call}
use Rattle.sfdu.specs.declared.Kind.{Kind}
use Rattle.sfdu.specs.declared.Kind.TheVariants.{Telemetry, Rsr}
use Rattle.sfdu_headers.specs.Fields.{spacecraft, source, equipment, virtual_stream, rsr_spacecraft, station, receiver, subchannel}
use Rattle.sfdu_headers.specs.Headers.{key_of}

-- The stream that a record's fields name.
abbrev pub stream_of : Kind → List ℕ → Stream
stream_of Telemetry s = telemetry (spacecraft s) (source s) (equipment s) (virtual_stream s)
stream_of Rsr s = rsr (rsr_spacecraft s) (station s) (receiver s) (subchannel s)

-- The key is what the kind's key call answers for those fields, and it is valid.
pub record KeyRight (k : Kind) (s : List ℕ) : Type 0 where
  pub made : key_call (stream_of k s) ≡ 0 ∷ key_of k s ∷ []
  pub valid : valid_key (key_of k s) ≡ true

-- This holds of any bytes.
abbrev pub EveryKey : Type 0
EveryKey = (k : Kind) (s : List ℕ) → ((i : ℕ) → get_or s i 0 < 256) → KeyRight k s
