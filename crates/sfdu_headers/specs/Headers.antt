-- Document 01, "Calls on records": read headers. Assumes nothing.
-- The manual, docs/INTERFACE.md: "Calls on records".
use Rattle.std.specs.Prelude.{◌≡◌, ℕ, Option, Some, None, Result, Ok, Err, not, cond, List, [], ◌∷◌, ◌++◌, map, eqb}
use Rattle.refusals.specs.Judge.{◌when◌, judge, answered}
use Rattle.refusals.specs.Table.{number_of}
use Rattle.refusals.specs.declared.Refusal.TheVariants.{FieldRange, WrongKind as WrongKindRefusal}
use Rattle.keys.specs.Key.{telemetry_key, rsr_key}
use Rattle.dates.specs.Calendar.{day_count}
use Rattle.sfdu.specs.declared.Kind.{Kind}
use Rattle.sfdu.specs.declared.Kind.TheVariants.{Telemetry, Rsr}
use Rattle.sfdu.specs.Nesting.{kind_number}
use Rattle.sfdu.specs.declared.RecordRefusal.{RecordRefusal}
use Rattle.sfdu.specs.Read.{primary_words, refusal_words, primary_of, kind_of, record_length, read_rules}
use Rattle.sfdu_headers.specs.declared.TelemetryFields.{TelemetryFields}
use Rattle.sfdu_headers.specs.declared.RsrSource.{RsrSource}
use Rattle.sfdu_headers.specs.declared.RsrSignal.{RsrSignal}
use Rattle.sfdu_headers.specs.declared.RsrReading.{RsrReading}
use Rattle.sfdu_headers.specs.declared.ReceivedTime.{ReceivedTime}
use Rattle.sfdu_headers.specs.declared.TelemetryHeaders.{TelemetryHeaders}
use Rattle.sfdu_headers.specs.declared.RsrHeaders.{RsrHeaders}
use Rattle.sfdu_headers.specs.declared.Headers.{Headers}
use Rattle.sfdu_headers.specs.declared.Headers.TheVariants.{Telemetry as OfTelemetry, Rsr as OfRsr}
use Rattle.sfdu_headers.specs.Words.{Word, number, signed, none}
use Rattle.sfdu_headers.specs.Fields.{
  spacecraft,
  source,
  received,
  received_days,
  received_milliseconds,
  received_extended,
  uplink,
  predicts_mode,
  has_band,
  virtual_stream,
  equipment,
  software,
  complex,
  station,
  receiver,
  subchannel,
  rsr_spacecraft,
  pass,
  rsr_uplink,
  downlink,
  rsr_mode,
  uplink_station,
  expected,
  bandwidth,
  overridden,
  attenuation,
  rms,
  peak,
  year,
  day,
  frequency,
  record_number,
}
use Rattle.sfdu_headers.specs.Ranges.{field_rules}

-- ---- the words of an answer: the number and values of each case, in the order of the paper

abbrev pub band_word : Option ℕ → Word
band_word (Some letter) = number letter
band_word None = none

abbrev pub telemetry_field_words : TelemetryFields → List Word
telemetry_field_words f =
    number f.spacecraft ∷ number f.source ∷ number f.received ∷ number f.number ∷ band_word f.uplink ∷ number f.mode
    ∷ number f.stream
    ∷ number f.equipment
    ∷ []

abbrev pub source_words : RsrSource → List Word
source_words f =
    number f.software ∷ number f.number ∷ number f.complex ∷ number f.station ∷ number f.receiver ∷ number f.subchannel
    ∷ number f.spacecraft
    ∷ number f.pass
    ∷ []

abbrev pub signal_words : RsrSignal → List Word
signal_words f =
    number f.uplink ∷ number f.downlink ∷ number f.mode ∷ number f.uplink_station ∷ signed f.expected ∷ number f.bandwidth
    ∷ number f.overridden
    ∷ number f.attenuation
    ∷ number f.rms
    ∷ number f.peak
    ∷ []

abbrev pub time_words : RsrReading → List Word
time_words f = number f.year ∷ number f.day ∷ number f.frequency ∷ []

abbrev pub received_words : ReceivedTime → List Word
received_words f = number f.days ∷ number f.milliseconds ∷ number f.extended ∷ []

-- Values that document 02 adds (Req 01) stand last, after the key.
abbrev pub accepted : Kind → (size : ℕ) (primary : List ℕ) (fields : List Word) (key : ℕ) (added : List Word) → List Word
accepted k size primary fields key added =
    number 0 ∷ number (kind_number k) ∷ number size ∷ map number primary ++ fields ++ number key ∷ added

abbrev pub out_of_range : ℕ → List Word
out_of_range at = number (number_of FieldRange) ∷ number at ∷ []

abbrev pub wrong_kind : List Word
wrong_kind = number (number_of WrongKindRefusal) ∷ []

abbrev pub telemetry_words : TelemetryHeaders → List Word
telemetry_words h = accepted Telemetry h.size (primary_words h.primary) (telemetry_field_words h.fields) h.key (received_words h.received)

abbrev pub rsr_words : RsrHeaders → List Word
rsr_words h =
    accepted Rsr h.size (primary_words h.primary) (source_words h.source ++ signal_words h.signal ++ time_words h.time) h.key (number h.day_count ∷ [])

abbrev pub words_of : Result Headers RecordRefusal → List Word
words_of (Ok (OfTelemetry h)) = telemetry_words h
words_of (Ok (OfRsr h)) = rsr_words h
words_of (Err refusal) = map number (refusal_words refusal)

-- Different answers have different words.
abbrev pub DifferentHeaders : Type 0
DifferentHeaders = (a b : Result Headers RecordRefusal) → words_of a ≡ words_of b → a ≡ b

-- ---- the fields and the key of a record

abbrev pub source_of : List ℕ → List Word
source_of s =
    number (software s) ∷ number (record_number Rsr s) ∷ number (complex s) ∷ number (station s) ∷ number (receiver s) ∷ number (subchannel s)
    ∷ number (rsr_spacecraft s)
    ∷ number (pass s)
    ∷ []

abbrev pub signal_of : List ℕ → List Word
signal_of s =
    number (rsr_uplink s) ∷ number (downlink s) ∷ number (rsr_mode s) ∷ number (uplink_station s) ∷ signed (expected s) ∷ number (bandwidth s)
    ∷ number (overridden s)
    ∷ number (attenuation s)
    ∷ number (rms s)
    ∷ number (peak s)
    ∷ []

abbrev pub time_of : List ℕ → List Word
time_of s = number (year s) ∷ number (day s) ∷ number (frequency s) ∷ []

abbrev pub fields_of : Kind → List ℕ → List Word
fields_of Telemetry s =
    number (spacecraft s) ∷ number (source s) ∷ number (received s) ∷ number (record_number Telemetry s)
    ∷ cond (has_band s) (number (uplink s)) none
    ∷ number (predicts_mode s)
    ∷ number (virtual_stream s)
    ∷ number (equipment s)
    ∷ []
fields_of Rsr s = source_of s ++ signal_of s ++ time_of s

abbrev pub key_of : Kind → List ℕ → ℕ
key_of Telemetry s = telemetry_key (spacecraft s) (source s) (equipment s) (virtual_stream s)
key_of Rsr s = rsr_key (rsr_spacecraft s) (station s) (receiver s) (subchannel s)

-- Document 02, Req 01: the received time in its three parts, which no call tests; the day count of the ADC reading.
abbrev pub added_of : Kind → List ℕ → List Word
added_of Telemetry s = number (received_days s) ∷ number (received_milliseconds s) ∷ number (received_extended s) ∷ []
added_of Rsr s = number (day_count (year s) (day s)) ∷ []

-- ---- the call

abbrev pub accepted_fields : Kind → List ℕ → List Word
accepted_fields k s = accepted k (record_length s) (primary_of s) (fields_of k s) (key_of k s) (added_of k s)

-- 12 is tested last: it gives the offset of the lowest field that is out of range. Else the answer is the fields.
abbrev pub judged_fields : Kind → List ℕ → List Word
judged_fields k s = judge out_of_range (field_rules k s) (accepted_fields k s)

-- The refusals of read one, then 15, then 12.
unfoldable pub read_headers : (wanted : ℕ) → List ℕ → List Word
read_headers wanted s =
    judge (map number) (read_rules s)
    (answered ((wrong_kind when not (eqb wanted (kind_number (kind_of s)))) ∷ []) (judged_fields (kind_of s) s))
