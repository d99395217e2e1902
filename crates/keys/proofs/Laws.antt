-- Laws of stream keys: which are valid, that a made key is valid, that a key names one stream, and that its parts are that stream's. Assumes nothing.
use Prim.Native.Nat.{ℕ, zero, ◌*◌, ◌+◌, ◌^◌, ◌/◌, ◌%◌, ◌-◌, ◌<◌, ◌≤◌}
use native.Mathlib.Nat.{add-zero, mod-eq_of_lt, div-eq_of_lt, mul-add-div_right, mul-add-mod_self_right}
use native.Mathlib.Omega.{arith}
use mathlib.Core.Path.{◌≡◌, refl, sym, ap, ◌∙◌}
use mathlib.Core.Bool.{Bool, true, false, not, ◌&&◌, ◌||◌, false≢true}
use mathlib.Core.Logic.{◌≢◌}
use mathlib.Core.List.{List, [], ◌∷◌}
use lib.Dec.{leb, ltb}
use borrow.Author.Tests.{ltb-true, ltb-false, lt-ltb, le-ltb, le-leb}
use Rattle.std.specs.Prelude.{Result}
use Rattle.std.specs.Result.{IsErrAnd}
use Rattle.std.proofs.lemmas.Result.{err_from_is_err_and}
use Rattle.refusals.specs.declared.Refusal.{Refusal}
use Rattle.refusals.specs.declared.Refusal.TheVariants.{BadKey}
use Rattle.laws.proofs.Bools.{and_split}
use Rattle.refusals.specs.Judge.{◌when◌, judge}
use Rattle.keys.specs.Key.{rsr_start, rsr_end, valid_key, telemetry_key, rsr_key, made, telemetry_key_call, rsr_key_call}
use Rattle.keys.specs.Key.{telemetry_kind, telemetry_parts, rsr_kind, rsr_parts, parts_call}
use Rattle.refusals.specs.Words.{one_word, Different}
use Rattle.refusals.proofs.Words.{answers-differ, one-differs}
use Rattle.keys.specs.declared.KeyParts.TheVariants.{Telemetry, Rsr}
use Rattle.keys.specs.Words.{words_of, values_of, DifferentKeys, DifferentParts}
use Rattle.keys.specs.Stream.{Stream, telemetry, rsr, key_call, stream_words, PartsAreStream, RefusedIsNoStream}
use Rattle.keys.specs.Laws.{NamesOne, MadeValid, Named, ValidNamed}

-- ---- the widths

-- Four numbers below their limits.
pub record Below (a m b n c o d p : ℕ) : Type 0 where
  pub one : a < m
  pub two : b < n
  pub three : c < o
  pub four : d < p

pub below : (a m b n c o d p : ℕ) → (ltb a m && ltb b n && ltb c o && ltb d p) ≡ true → Below a m b n c o d p
below a m b n c o d p e =
    let z = and_split (ltb a m && ltb b n && ltb c o) (ltb d p) e in
    let y = and_split (ltb a m && ltb b n) (ltb c o) z.0 in
    let x = and_split (ltb a m) (ltb b n) y.0 in
    record { one = ltb-true a m x.0; two = ltb-true b n x.1; three = ltb-true c o y.1; four = ltb-true d p z.1 }

-- A `?` hands on the refusal of a number that does not fit.
pub refuses : (answer : Result ℕ Refusal) {why : Refusal} → IsErrAnd answer (λ given. given ≡ why) → why ≡ BadKey → (fits : Bool) (key : ℕ)
    → fits ≡ false → words_of answer ≡ made ((22 when not fits) ∷ []) key
unfolding judge
refuses answer h e fits key not-all = let given = err_from_is_err_and answer h in rw (given.1, given.2, e, not-all) refl

pub makes : (fits : Bool) (key formula : ℕ) → fits ≡ true → key ≡ formula → 0 ∷ key ∷ [] ≡ made ((22 when not fits) ∷ []) formula
unfolding judge
makes fits key formula all same = rw (all, same) refl

pub fitting : (a m b n c o d p : ℕ) → Below a m b n c o d p → (ltb a m && ltb b n && ltb c o && ltb d p) ≡ true
fitting a m b n c o d p w = rw (lt-ltb a m w.one, lt-ltb b n w.two, lt-ltb c o w.three, lt-ltb d p w.four)

-- ---- validity

-- The valid keys are all those below the end of the RSR keys.
pub valid-below : (key : ℕ) → key < rsr_end → valid_key key ≡ true
unfolding valid_key
valid-below key h = at (ltb key rsr_start) refl
  where
    at : (t : Bool) → ltb key rsr_start ≡ t → (t || (leb rsr_start key && ltb key rsr_end)) ≡ true
    at true e = refl
    at false e = rw (le-leb rsr_start key (ltb-false key rsr_start e), lt-ltb key rsr_end h)

pub below-valid : (key : ℕ) → valid_key key ≡ true → key < rsr_end
unfolding valid_key
below-valid key = at (ltb key rsr_start) refl
  where
    at : (t : Bool) → ltb key rsr_start ≡ t → (t || (leb rsr_start key && ltb key rsr_end)) ≡ true → key < rsr_end
    at true e h = omega (arith, ltb-true key rsr_start e)
    at false e h = ltb-true key rsr_end (and_split (leb rsr_start key) (ltb key rsr_end) h).1

-- ---- four fields side by side, whatever their widths

-- The last three are below n, o and p.
abbrev packed : (n o p a b c d : ℕ) → ℕ
packed n o p a b c d = ((a * n + b) * o + c) * p + d

-- A field and what stands before it are read off their sum.
digit : (m x y x' y' : ℕ) → y < m → y' < m → x * m + y ≡ x' * m + y' → (x ≡ x') × (y ≡ y')
digit m x y x' y' h h' e =
    let pos : zero < m = omega arith in
    let low : (z w : ℕ) → w < m → (z * m + w) / m ≡ z = λ z w l. mul-add-div_right pos z w ∙ ap (λ q. z + q) (div-eq_of_lt l) ∙ add-zero z in
    let same-top = sym (low x y h) ∙ ap (λ k. k / m) e ∙ low x' y' h' in
    (same-top, sym (mod-eq_of_lt h) ∙ sym (mul-add-mod_self_right x m y) ∙ ap (λ k. k % m) e ∙ mul-add-mod_self_right x' m y' ∙ mod-eq_of_lt h')

record Same (a b c d a' b' c' d' : ℕ) : Type 0 where
  one : a ≡ a'
  two : b ≡ b'
  three : c ≡ c'
  four : d ≡ d'

fields : (m n o p a b c d a' b' c' d' : ℕ) → Below a m b n c o d p → Below a' m b' n c' o d' p
    → packed n o p a b c d ≡ packed n o p a' b' c' d' → Same a b c d a' b' c' d'
fields m n o p a b c d a' b' c' d' w w' e =
    let z = digit p _ d _ d' w.four w'.four e in
    let y = digit o _ c _ c' w.three w'.three z.0 in
    let x = digit n a b a' b' w.two w'.two y.0 in
    record { one = x.0; two = x.1; three = y.1; four = z.1 }

-- ---- a call that makes a key

-- A call answers a key exactly where the numbers fit, and then the key is the formula's.
answered : (a m b n c o d p formula key : ℕ)
    → made ((22 when not (ltb a m && ltb b n && ltb c o && ltb d p)) ∷ []) formula ≡ 0 ∷ key ∷ []
    → Below a m b n c o d p × (key ≡ formula)
unfolding judge
answered a m b n c o d p formula key = at (ltb a m && ltb b n && ltb c o && ltb d p) refl
  where
    at : (fit : Bool) → (ltb a m && ltb b n && ltb c o && ltb d p) ≡ fit → made ((22 when not fit) ∷ []) formula ≡ 0 ∷ key ∷ []
        → Below a m b n c o d p × (key ≡ formula)
    at true t e = (below a m b n c o d p t, cc)
    at false t e = absurd (false≢true cc)

telemetry-made : (a b c d key : ℕ) → telemetry_key_call a b c d ≡ 0 ∷ key ∷ []
    → Below a (2 ^ 10) b (2 ^ 8) c (2 ^ 16) d (2 ^ 8) × (key ≡ telemetry_key a b c d)
unfolding telemetry_key_call
telemetry-made a b c d key e = answered a _ b _ c _ d _ _ key e

rsr-made : (a b c d key : ℕ) → rsr_key_call a b c d ≡ 0 ∷ key ∷ [] → Below a (2 ^ 8) b (2 ^ 8) c (2 ^ 8) d (2 ^ 8) × (key ≡ rsr_key a b c d)
unfolding rsr_key_call
rsr-made a b c d key e = answered a _ b _ c _ d _ _ key e

-- Numbers that fit make the key.
pub telemetry-answers : (a b c d : ℕ) → Below a (2 ^ 10) b (2 ^ 8) c (2 ^ 16) d (2 ^ 8) → telemetry_key_call a b c d ≡ 0 ∷ telemetry_key a b c d ∷ []
unfolding telemetry_key_call judge
telemetry-answers a b c d w = rw (fitting a (2 ^ 10) b (2 ^ 8) c (2 ^ 16) d (2 ^ 8) w)

pub rsr-answers : (a b c d : ℕ) → Below a (2 ^ 8) b (2 ^ 8) c (2 ^ 8) d (2 ^ 8) → rsr_key_call a b c d ≡ 0 ∷ rsr_key a b c d ∷ []
unfolding rsr_key_call judge
rsr-answers a b c d w = rw (fitting a (2 ^ 8) b (2 ^ 8) c (2 ^ 8) d (2 ^ 8) w)

-- A made telemetry key lies below the RSR keys, and a made RSR key among them.
pub telemetry-low : (a b c d key : ℕ) → telemetry_key_call a b c d ≡ 0 ∷ key ∷ [] → key < rsr_start
telemetry-low a b c d key e = omega (arith, telemetry-made a b c d key e)

pub rsr-between : (a b c d key : ℕ) → rsr_key_call a b c d ≡ 0 ∷ key ∷ [] → (rsr_start ≤ key) × (key < rsr_end)
rsr-between a b c d key e = let h = rsr-made a b c d key e in (omega arith, omega arith)

-- A made key is valid.
pub made-valid : MadeValid
made-valid (telemetry a b c d) key e = valid-below key (omega (arith, telemetry-low a b c d key e))
made-valid (rsr a b c d) key e = valid-below key (rsr-between a b c d key e).1

-- No key is of both kinds.
one-kind : {A : Type 0} (a b c d a' b' c' d' key : ℕ) → telemetry_key_call a b c d ≡ 0 ∷ key ∷ [] → rsr_key_call a' b' c' d' ≡ 0 ∷ key ∷ [] → A
one-kind a b c d a' b' c' d' key e e' = absurd (omega (arith, telemetry-low a b c d key e, (rsr-between a' b' c' d' key e').0))

-- A key names one stream.
pub names-one : NamesOne
names-one (telemetry a b c d) (telemetry a' b' c' d') key e e' =
    let h = telemetry-made a b c d key e in
    let h' = telemetry-made a' b' c' d' key e' in
    let s = fields (2 ^ 10) (2 ^ 8) (2 ^ 16) (2 ^ 8) a b c d a' b' c' d' h.0 h'.0 (omega arith) in
    cc
names-one (rsr a b c d) (rsr a' b' c' d') key e e' =
    let h = rsr-made a b c d key e in
    let h' = rsr-made a' b' c' d' key e' in
    let s = fields (2 ^ 8) (2 ^ 8) (2 ^ 8) (2 ^ 8) a b c d a' b' c' d' h.0 h'.0 (omega arith) in
    cc
names-one (telemetry a b c d) (rsr a' b' c' d') key e e' = one-kind a b c d a' b' c' d' key e e'
names-one (rsr a b c d) (telemetry a' b' c' d') key e e' = one-kind a' b' c' d' a b c d key e' e

-- ---- a call that takes a key apart

-- What it answers, by where the key lies.
pub parts-refused : (key : ℕ) → rsr_end ≤ key → 22 ∷ [] ≡ parts_call key
unfolding parts_call judge valid_key
parts-refused key h = rw (le-ltb key rsr_start (omega arith), le-ltb key rsr_end h, le-leb rsr_start key (omega arith))

pub telemetry-taken : (key : ℕ) → key < rsr_start → 0 ∷ telemetry_kind ∷ telemetry_parts key ≡ parts_call key
unfolding parts_call judge valid_key
telemetry-taken key h = rw (lt-ltb key rsr_start h)

pub rsr-taken : (key : ℕ) → rsr_start ≤ key → key < rsr_end → 0 ∷ rsr_kind ∷ rsr_parts (key - rsr_start) ≡ parts_call key
unfolding parts_call judge valid_key
rsr-taken key h l = rw (le-ltb key rsr_start h, le-leb rsr_start key h, lt-ltb key rsr_end l)

-- Every valid key names a stream, which its parts are.
telemetry-named : (key : ℕ) → key < rsr_start → Named key
telemetry-named key l =
    let a = key / 2 ^ 32 in
    let b = key / 2 ^ 24 % 2 ^ 8 in
    let c = key / 2 ^ 8 % 2 ^ 16 in
    let d = key % 2 ^ 8 in
    let k : telemetry_key a b c d ≡ key = omega arith in
    let made = telemetry-answers a b c d record { one = omega arith; two = omega arith; three = omega arith; four = omega arith } in
    record { stream = telemetry a b c d; is = rw k at made; parts = sym (telemetry-taken key l) }

rsr-named : (key : ℕ) → rsr_start ≤ key → key < rsr_end → Named key
rsr-named key h l =
    let above = key - rsr_start in
    let a = above / 2 ^ 24 in
    let b = above / 2 ^ 16 % 2 ^ 8 in
    let c = above / 2 ^ 8 % 2 ^ 8 in
    let d = above % 2 ^ 8 in
    let k : rsr_key a b c d ≡ key = omega arith in
    let made = rsr-answers a b c d record { one = omega arith; two = omega arith; three = omega arith; four = omega arith } in
    record { stream = rsr a b c d; is = rw k at made; parts = sym (rsr-taken key h l) }

named-below : (key : ℕ) → key < rsr_end → Named key
named-below key l = by (ltb key rsr_start) refl
  where
    by : (t : Bool) → ltb key rsr_start ≡ t → Named key
    by true t = telemetry-named key (ltb-true key rsr_start t)
    by false t = rsr-named key (ltb-false key rsr_start t) l

pub valid-named : ValidNamed
valid-named key e = named-below key (below-valid key e)

-- Streams with the same words are the same.
stream-same : (s t : Stream) → stream_words s ≡ stream_words t → s ≡ t
stream-same (telemetry a b c d) (telemetry a' b' c' d') e = cc
stream-same (rsr a b c d) (rsr a' b' c' d') e = cc
stream-same (telemetry a b c d) (rsr a' b' c' d') e = cc
stream-same (rsr a b c d) (telemetry a' b' c' d') e = cc

-- A key whose call to take it apart is accepted lies below the end of the keys.
taken-below : (key : ℕ) (words : List ℕ) → parts_call key ≡ 0 ∷ words → key < rsr_end
taken-below key words e = by (ltb key rsr_end) refl
  where
    by : (t : Bool) → ltb key rsr_end ≡ t → key < rsr_end
    by true t = ltb-true key rsr_end t
    by false t =
        let same : 22 ∷ [] ≡ 0 ∷ words = parts-refused key (ltb-false key rsr_end t) ∙ e in
        let z : ◌≡◌ {A = ℕ} 22 0 = cc in
        absurd (omega arith)

-- The parts of a key are the stream that it names, both ways.
pub parts-are-stream : PartsAreStream
parts-are-stream s key = (made, taken)
  where
    made : key_call s ≡ 0 ∷ key ∷ [] → parts_call key ≡ 0 ∷ stream_words s
    made e =
        let n = valid-named key (made-valid s key e) in
        rw (← names-one n.stream s key n.is e) n.parts

    taken : parts_call key ≡ 0 ∷ stream_words s → key_call s ≡ 0 ∷ key ∷ []
    taken e =
        let n = named-below key (taken-below key _ e) in
        let same : stream_words n.stream ≡ stream_words s = cc in
        rw (← stream-same n.stream s same) n.is

pub refused-is-no-stream : RefusedIsNoStream
refused-is-no-stream key = (none, refused)
  where
    none : parts_call key ≡ 22 ∷ [] → (s : Stream) → key_call s ≢ 0 ∷ key ∷ []
    none e s m =
        let z : 22 ∷ [] ≡ 0 ∷ stream_words s = sym e ∙ (parts-are-stream s key).0 m in
        let y : ◌≡◌ {A = ℕ} 22 0 = cc in
        omega arith

    refused : ((s : Stream) → key_call s ≢ 0 ∷ key ∷ []) → parts_call key ≡ 22 ∷ []
    refused nobody = by (ltb key rsr_end) refl
      where
        by : (t : Bool) → ltb key rsr_end ≡ t → parts_call key ≡ 22 ∷ []
        by true t = let n = named-below key (ltb-true key rsr_end t) in absurd (nobody n.stream n.is)
        by false t = sym (parts-refused key (ltb-false key rsr_end t))

-- ---- answers

-- Different answers have different words.
pub words-injective : DifferentKeys
words-injective = answers-differ one_word one-differs

values-differ : Different values_of
values-differ (Telemetry a b c d) (Telemetry a' b' c' d') e = cc
values-differ (Rsr a b c d) (Rsr a' b' c' d') e = cc
values-differ (Telemetry a b c d) (Rsr a' b' c' d') e = cc
values-differ (Rsr a b c d) (Telemetry a' b' c' d') e = cc

pub parts-injective : DifferentParts
parts-injective = answers-differ values_of values-differ
