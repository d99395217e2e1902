-- What holds of every key and every stream. proofs/Laws.antt proves it. Assumes nothing.
-- The manual, docs/INTERFACE.md: "Stream key".
use Rattle.std.specs.Prelude.{ℕ, true, [], ◌∷◌, ◌≡◌}
use Rattle.keys.specs.Key.{valid_key, parts_call}
use Rattle.keys.specs.Stream.{Stream, key_call, stream_words}

-- A key names one stream: no two streams have the same key.
abbrev pub NamesOne : Type 0
NamesOne = (s t : Stream) (key : ℕ) → key_call s ≡ 0 ∷ key ∷ [] → key_call t ≡ 0 ∷ key ∷ [] → s ≡ t

-- A key that a call makes is valid.
abbrev pub MadeValid : Type 0
MadeValid = (s : Stream) (key : ℕ) → key_call s ≡ 0 ∷ key ∷ [] → valid_key key ≡ true

-- The stream that a key names: the stream's call makes the key, and the key's parts are the stream's.
pub record Named (key : ℕ) : Type 0 where
  pub stream : Stream
  pub is : key_call stream ≡ 0 ∷ key ∷ []
  pub parts : parts_call key ≡ 0 ∷ stream_words stream

-- Every valid key names a stream.
abbrev pub ValidNamed : Type 0
ValidNamed = (key : ℕ) → valid_key key ≡ true → Named key
