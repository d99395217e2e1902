-- Different answers have different words. Assumes nothing.
use Prim.Native.Nat.{ℕ}
use mathlib.Core.List.{List, ◌∷◌, [], map}
use mathlib.Core.Path.{◌≡◌, refl, sym, ap}
use Rattle.refusals.specs.Table.{number_of}
use Rattle.refusals.proofs.Laws.{number-positive}
use Rattle.std.specs.Prelude.{Option, Some, None, Ok, Err}
use mathlib.Core.Bool.{false≢true}
use lib.ListN.{take, drop}
use Rattle.sfdu.specs.declared.Primary.{Primary}
use Rattle.sfdu.specs.Read.{primary_words, refusal_words}
use Rattle.sfdu.proofs.Words.{same-primary, same-refusal}
use Rattle.sfdu.specs.declared.RecordRefusal.{RecordRefusal}
use Rattle.sfdu.specs.declared.RecordRefusal.TheVariants.{Fault as FaultRefusal, Alone}
use Rattle.sfdu_headers.specs.declared.TelemetryFields.{TelemetryFields}
use Rattle.sfdu_headers.specs.declared.RsrSource.{RsrSource}
use Rattle.sfdu_headers.specs.declared.RsrSignal.{RsrSignal}
use Rattle.sfdu_headers.specs.declared.RsrReading.{RsrReading}
use Rattle.sfdu_headers.specs.declared.ReceivedTime.{ReceivedTime}
use Rattle.sfdu_headers.specs.declared.TelemetryHeaders.{TelemetryHeaders}
use Rattle.sfdu_headers.specs.declared.RsrHeaders.{RsrHeaders}
use Rattle.sfdu_headers.specs.declared.Headers.TheVariants.{Telemetry, Rsr}
use Rattle.sfdu_headers.specs.Words.{Word, number}
use Rattle.sfdu_headers.specs.Headers.{band_word, telemetry_field_words, source_words, signal_words, time_words, received_words, telemetry_words, rsr_words, DifferentHeaders}

same-band : (a b : Option ℕ) → band_word a ≡ band_word b → a ≡ b
same-band (Some x) (Some y) e = cc
same-band (Some x) None e = cc
same-band None (Some y) e = cc
same-band None None e = refl

same-fields : (f g : TelemetryFields) → telemetry_field_words f ≡ telemetry_field_words g → f ≡ g
same-fields f g e =
    let a : f.spacecraft ≡ g.spacecraft = cc in
    let b : f.source ≡ g.source = cc in
    let c : f.received ≡ g.received = cc in
    let d : f.number ≡ g.number = cc in
    let band : band_word f.uplink ≡ band_word g.uplink = cc in
    let u = same-band f.uplink g.uplink band in
    let m : f.mode ≡ g.mode = cc in
    let s : f.stream ≡ g.stream = cc in
    let q : f.equipment ≡ g.equipment = cc in
    λ i. record { spacecraft = a i; source = b i; received = c i; number = d i; uplink = u i; mode = m i; stream = s i; equipment = q i }

same_source : (f g : RsrSource) → source_words f ≡ source_words g → f ≡ g
same_source f g e =
    let a : f.software ≡ g.software = cc in
    let b : f.number ≡ g.number = cc in
    let c : f.complex ≡ g.complex = cc in
    let d : f.station ≡ g.station = cc in
    let r : f.receiver ≡ g.receiver = cc in
    let s : f.subchannel ≡ g.subchannel = cc in
    let x : f.spacecraft ≡ g.spacecraft = cc in
    let p : f.pass ≡ g.pass = cc in
    λ i. record { software = a i; number = b i; complex = c i; station = d i; receiver = r i; subchannel = s i; spacecraft = x i; pass = p i }

same-signal : (f g : RsrSignal) → signal_words f ≡ signal_words g → f ≡ g
same-signal f g e =
    let a : f.uplink ≡ g.uplink = cc in
    let b : f.downlink ≡ g.downlink = cc in
    let c : f.mode ≡ g.mode = cc in
    let d : f.uplink_station ≡ g.uplink_station = cc in
    let x : f.expected ≡ g.expected = cc in
    let w : f.bandwidth ≡ g.bandwidth = cc in
    let o : f.overridden ≡ g.overridden = cc in
    let t : f.attenuation ≡ g.attenuation = cc in
    let r : f.rms ≡ g.rms = cc in
    let p : f.peak ≡ g.peak = cc in
    λ i. record {
      uplink = a i;
      downlink = b i;
      mode = c i;
      uplink_station = d i;
      expected = x i;
      bandwidth = w i;
      overridden = o i;
      attenuation = t i;
      rms = r i;
      peak = p i;
    }

same-time : (f g : RsrReading) → time_words f ≡ time_words g → f ≡ g
same-time f g e =
    let a : f.year ≡ g.year = cc in
    let b : f.day ≡ g.day = cc in
    let c : f.frequency ≡ g.frequency = cc in
    λ i. record { year = a i; day = b i; frequency = c i }

same_received : (f g : ReceivedTime) → received_words f ≡ received_words g → f ≡ g
same_received f g e =
    let a : f.days ≡ g.days = cc in
    let b : f.milliseconds ≡ g.milliseconds = cc in
    let c : f.extended ≡ g.extended = cc in
    λ i. record { days = a i; milliseconds = b i; extended = c i }

-- The words from a place on.
abbrev part : (at count : ℕ) → List Word → List Word
part at count words = take count (drop at words)

same_number : (x y : ℕ) → number x ∷ [] ≡ number y ∷ [] → x ≡ y
same_number x y e = cc

same-primary-words : (p q : Primary) → map number (primary_words p) ≡ map number (primary_words q) → p ≡ q
same-primary-words p q e =
    let a : p.major ≡ q.major = cc in
    let b : p.minor ≡ q.minor = cc in
    let c : p.mission ≡ q.mission = cc in
    let d : p.format ≡ q.format = cc in
    same-primary p q (rw (a, b, c, d))

same-telemetry : (a b : TelemetryHeaders) → telemetry_words a ≡ telemetry_words b → a ≡ b
same-telemetry a b e =
    let size = same_number a.size b.size (ap (part 2 1) e) in
    let primary = same-primary-words a.primary b.primary (ap (part 3 4) e) in
    let fields = same-fields a.fields b.fields (ap (part 7 8) e) in
    let key = same_number a.key b.key (ap (part 15 1) e) in
    let received = same_received a.received b.received (ap (part 16 3) e) in
    λ i. record { size = size i; primary = primary i; fields = fields i; key = key i; received = received i }

same-rsr : (a b : RsrHeaders) → rsr_words a ≡ rsr_words b → a ≡ b
same-rsr a b e =
    let size = same_number a.size b.size (ap (part 2 1) e) in
    let primary = same-primary-words a.primary b.primary (ap (part 3 4) e) in
    let source = same_source a.source b.source (ap (part 7 8) e) in
    let signal = same-signal a.signal b.signal (ap (part 15 10) e) in
    let time = same-time a.time b.time (ap (part 25 3) e) in
    let key = same_number a.key b.key (ap (part 28 1) e) in
    let count = same_number a.day_count b.day_count (ap (part 29 1) e) in
    λ i. record { size = size i; primary = primary i; source = source i; signal = signal i; time = time i; key = key i; day_count = count i }

-- No refusal begins with 0.
no-refusal : (r : RecordRefusal) (words : List Word) → map number (refusal_words r) ≡ number 0 ∷ words → ⊥
no-refusal (FaultRefusal f) words e = number-positive f.refusal (cc)
no-refusal (Alone r) words e = number-positive r (cc)

same-numbers : (a b : RecordRefusal) → map number (refusal_words a) ≡ map number (refusal_words b) → refusal_words a ≡ refusal_words b
same-numbers (FaultRefusal f) (FaultRefusal g) e =
    let n : number_of f.refusal ≡ number_of g.refusal = cc in
    let at : f.at ≡ g.at = cc in
    rw (n, at)
same-numbers (FaultRefusal f) (Alone r) e = cc
same-numbers (Alone r) (FaultRefusal f) e = cc
same-numbers (Alone r) (Alone s) e = let n : number_of r ≡ number_of s = cc in rw n

pub same-headers : DifferentHeaders
same-headers (Ok (Telemetry a)) (Ok (Telemetry b)) e = ap (λ h. Ok (Telemetry h)) (same-telemetry a b e)
same-headers (Ok (Rsr a)) (Ok (Rsr b)) e = ap (λ h. Ok (Rsr h)) (same-rsr a b e)
same-headers (Ok (Telemetry a)) (Ok (Rsr b)) e = absurd (false≢true cc)
same-headers (Ok (Rsr a)) (Ok (Telemetry b)) e = absurd (false≢true cc)
same-headers (Ok (Telemetry a)) (Err r) e = absurd (no-refusal r _ (sym e))
same-headers (Ok (Rsr a)) (Err r) e = absurd (no-refusal r _ (sym e))
same-headers (Err r) (Ok (Telemetry a)) e = absurd (no-refusal r _ e)
same-headers (Err r) (Ok (Rsr a)) e = absurd (no-refusal r _ e)
same-headers (Err r) (Err t) e = ap Err (same-refusal r t (same-numbers r t e))
