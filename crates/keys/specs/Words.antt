-- The words of a key call's answer: 0 and the key; or 0, the kind and the four numbers; or the refusal's number. Assumes nothing.
use Rattle.std.specs.Prelude.{ℕ, List, [], ◌∷◌, Result}
use Rattle.refusals.specs.declared.Refusal.{Refusal}
use Rattle.refusals.specs.Words.{answer_words, one_word, Different}
use Rattle.keys.specs.declared.KeyParts.{KeyParts}
use Rattle.keys.specs.declared.KeyParts.TheVariants.{Telemetry, Rsr}
use Rattle.keys.specs.Key.{telemetry_kind, rsr_kind}

abbrev pub words_of : Result ℕ Refusal → List ℕ
words_of answer = answer_words one_word answer

-- The kind and the four numbers.
abbrev pub values_of : KeyParts → List ℕ
values_of (Telemetry spacecraft source equipment stream) = telemetry_kind ∷ spacecraft ∷ source ∷ equipment ∷ stream ∷ []
values_of (Rsr spacecraft station receiver subchannel) = rsr_kind ∷ spacecraft ∷ station ∷ receiver ∷ subchannel ∷ []

abbrev pub parts_words : Result KeyParts Refusal → List ℕ
parts_words answer = answer_words values_of answer

-- Different answers have different words.
abbrev pub DifferentKeys : Type 0
DifferentKeys = Different words_of

abbrev pub DifferentParts : Type 0
DifferentParts = Different parts_words
