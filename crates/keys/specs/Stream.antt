-- A stream, the call that makes its key, and the call that gives the key's parts. A key names one stream, and its parts are that stream's. Assumes nothing.
use Rattle.std.specs.Prelude.{ℕ, ◌≡◌, ◌≢◌, ◌↔◌, List, [], ◌∷◌}
use Rattle.keys.specs.Key.{telemetry_key_call, rsr_key_call, telemetry_kind, rsr_kind, parts_call}

pub data Stream : Type 0 where
  telemetry : (spacecraft source equipment stream : ℕ) → Stream
  rsr : (spacecraft station receiver subchannel : ℕ) → Stream

-- The answer of the call that makes the stream's key.
abbrev pub key_call : Stream → List ℕ
key_call (telemetry spacecraft source equipment stream) = telemetry_key_call spacecraft source equipment stream
key_call (rsr spacecraft station receiver subchannel) = rsr_key_call spacecraft station receiver subchannel

-- The stream's kind and four numbers, as the call that gives a key's parts puts them.
abbrev pub stream_words : Stream → List ℕ
stream_words (telemetry spacecraft source equipment stream) = telemetry_kind ∷ spacecraft ∷ source ∷ equipment ∷ stream ∷ []
stream_words (rsr spacecraft station receiver subchannel) = rsr_kind ∷ spacecraft ∷ station ∷ receiver ∷ subchannel ∷ []

-- The stream's call makes the key exactly if the key's parts are the stream's.
abbrev pub PartsAreStream : Type 0
PartsAreStream = (s : Stream) (key : ℕ) → (key_call s ≡ 0 ∷ key ∷ []) ↔ (parts_call key ≡ 0 ∷ stream_words s)

-- The call that gives a key's parts refuses it exactly if no stream's call makes it.
abbrev pub RefusedIsNoStream : Type 0
RefusedIsNoStream = (key : ℕ) → (parts_call key ≡ 22 ∷ []) ↔ ((s : Stream) → key_call s ≢ 0 ∷ key ∷ [])
