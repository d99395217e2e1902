-- The words of accepted headers, from the words of their parts. Assumes nothing.
use Prim.Native.Nat.{ℕ, zero, ◌+◌, ◌*◌, ◌/◌, ◌%◌, ◌<◌}
use native.Mathlib.Nat.{add-zero, mod-eq_of_lt, div-eq_of_lt, mul-add-div_right, mul-add-mod_self_right}
use native.Mathlib.Omega.{arith}
use mathlib.Core.List.{List, [], ◌∷◌, ◌++◌}
use mathlib.Core.Path.{◌≡◌, ap, ◌∙◌}
use Rattle.octets.specs.Octets.{number_at}
use Rattle.octets.proofs.Laws.{Bytes, number_lt, number-join}
use Rattle.sfdu.specs.Nesting.{secondary_at}
use Rattle.keys.specs.Key.{telemetry_key, rsr_key}
use Rattle.sfdu.specs.declared.Kind.{Kind}
use Rattle.sfdu.specs.declared.Kind.TheVariants.{Telemetry, Rsr}
use Rattle.sfdu_headers.specs.declared.TelemetryFields.{TelemetryFields}
use Rattle.sfdu_headers.specs.declared.RsrSource.{RsrSource}
use Rattle.sfdu_headers.specs.Words.{Word, number}
use Rattle.sfdu_headers.specs.Fields.{spacecraft, source, equipment, virtual_stream, rsr_spacecraft, station, receiver, subchannel}
use Rattle.sfdu_headers.specs.Headers.{accepted, telemetry_field_words, source_words, source_of, fields_of, key_of, added_of}
use Rattle.sfdu_headers.specs.inner.Parts.{extended_values, millisecond_values}

pub same-accepted : (k : Kind) (size n : ℕ) (p q : List ℕ) (f g : List Word) (key l : ℕ) (x y : List Word) → size ≡ n → p ≡ q → f ≡ g
    → key ≡ l → x ≡ y → accepted k size p f key x ≡ accepted k n q g l y
same-accepted k size n p q f g key l x y a b c d e = rw (a, b, c, d, e)

pub telemetry-key : (s : List ℕ) (f : TelemetryFields) (key : ℕ) → telemetry_field_words f ≡ fields_of Telemetry s
    → key ≡ telemetry_key f.spacecraft f.source f.equipment f.stream → key ≡ key_of Telemetry s
telemetry-key s f key e h =
    let a : f.spacecraft ≡ spacecraft s = cc in
    let b : f.source ≡ source s = cc in
    let c : f.equipment ≡ equipment s = cc in
    let d : f.stream ≡ virtual_stream s = cc in
    h ∙ rw (a, b, c, d)

pub rsr-key : (s : List ℕ) (f : RsrSource) (key : ℕ) → source_words f ≡ source_of s
    → key ≡ rsr_key f.spacecraft f.station f.receiver f.subchannel → key ≡ key_of Rsr s
rsr-key s f key e h =
    let a : f.spacecraft ≡ rsr_spacecraft s = cc in
    let b : f.station ≡ station s = cc in
    let c : f.receiver ≡ receiver s = cc in
    let d : f.subchannel ≡ subchannel s = cc in
    h ∙ rw (a, b, c, d)

pub joined : (a b x y m n : List Word) → a ≡ b → x ≡ y → m ≡ n → a ++ x ++ m ≡ b ++ y ++ n
joined a b x y m n p q r = rw (p, q, r)

-- ---- the received time's parts, from the one number

-- a number of parts gives them back
lower : (m x y : ℕ) → y < m → (x * m + y) % m ≡ y
lower m x y l = mul-add-mod_self_right x m y ∙ mod-eq_of_lt l

upper : (m x y : ℕ) → y < m → (x * m + y) / m ≡ x
upper m x y l = let positive : zero < m = omega arith in mul-add-div_right positive x y ∙ ap (λ q. x + q) (div-eq_of_lt l) ∙ add-zero x

abbrev pub split_words : ℕ → List Word
split_words n = number (n / extended_values / millisecond_values) ∷ number (n / extended_values % millisecond_values) ∷ number (n % extended_values) ∷ []

split_parts : (n days milliseconds extended : ℕ) → n ≡ (days * millisecond_values + milliseconds) * extended_values + extended
    → milliseconds < millisecond_values → extended < extended_values → split_words n ≡ number days ∷ number milliseconds ∷ number extended ∷ []
split_parts n days milliseconds extended e m x =
    let time = days * millisecond_values + milliseconds in
    let high : n / extended_values ≡ time = ap (λ k. k / extended_values) e ∙ upper extended_values time extended x in
    let low : n % extended_values ≡ extended = ap (λ k. k % extended_values) e ∙ lower extended_values time extended x in
    rw (high, low, upper millisecond_values days milliseconds m, lower millisecond_values days milliseconds m)

pub received-parts : (s : List ℕ) (f : TelemetryFields) → Bytes s → telemetry_field_words f ≡ fields_of Telemetry s
    → split_words f.received ≡ added_of Telemetry s
received-parts s f bytes e =
    let a = secondary_at + 14 in
    let whole : f.received ≡ number_at s a 8 = cc in
    let parts : number_at s a 8 ≡ (number_at s a 2 * millisecond_values + number_at s (a + 2) 4) * extended_values + number_at s (a + 6) 2 =
    number-join s a 6 2 ∙ ap (λ k. k * extended_values + number_at s (a + 6) 2) (number-join s a 2 4) in
    split_parts f.received _ _ _ (whole ∙ parts) (number_lt s (a + 2) 4 bytes) (number_lt s (a + 6) 2 bytes)
