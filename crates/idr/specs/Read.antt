-- Document 02, Req 04: the reader's calls on a lent record s. Assumes nothing.
-- The manual, docs/INTERFACE.md: "Medium band tapes".
use Rattle.std.specs.Prelude.{ℕ, Bool, not, cond, ◌&&◌, List, [], ◌∷◌, ◌++◌, eqb, length, Option, Some, None, Result}
use Rattle.refusals.specs.declared.Refusal.{Refusal}
use Rattle.refusals.specs.Words.{answer_words, Different}
use Rattle.refusals.specs.Judge.{Rule, ◌when◌, judge, none_applies}
use Rattle.octets.specs.Octets.{part}
use Rattle.idr.specs.declared.Origin.{Origin}
use Rattle.idr.specs.declared.Time.{Time}
use Rattle.idr.specs.declared.Recorder.{Recorder}
use Rattle.idr.specs.declared.Reduction.{Reduction}
use Rattle.idr.specs.declared.Status.{Status}
use Rattle.idr.specs.declared.Tagged.{Tagged}
use Rattle.idr.specs.Words.{header, header_count, record_size, samples_at, samples_size}
use Rattle.idr.specs.Fields.{tagged, fields_of}
use Rattle.idr.specs.Rules.{word_rules}

-- ---- the words of an answer: 0 and the fields; 0 alone if the time tag is not valid; or the refusal's number

abbrev pub origin_words : Origin → List ℕ
origin_words f =
    f.first ∷ f.source_error ∷ f.tape_type ∷ f.tape ∷ f.number ∷ f.spacecraft ∷ f.station ∷ f.dra_tape ∷ []

abbrev pub time_words : Time → List ℕ
time_words f = f.day ∷ f.hour ∷ f.minute ∷ f.second ∷ f.micros ∷ []

abbrev pub recorder_words : Recorder → List ℕ
recorder_words f =
    f.input ∷ f.pps_absent ∷ f.clock_unsynced ∷ f.recorder_b ∷ f.micros_abnormal ∷ f.track_synced ∷ []

abbrev pub reduction_words : Reduction → List ℕ
reduction_words f =
    f.playback ∷ f.sampling ∷ f.bypass ∷ f.decimation ∷ f.pps_track ∷ f.time_track ∷ f.channel ∷ f.block ∷ []

abbrev pub status_words : Status → List ℕ
status_words f = f.day ∷ f.second ∷ f.overflow ∷ f.pps_unsynced ∷ f.bit_slip ∷ f.counter ∷ []

abbrev pub count_words : Option ℕ → List ℕ
count_words (Some n) = n ∷ []
count_words None = []

abbrev pub fields_words : Option Tagged → List ℕ
fields_words None = []
fields_words (Some f) =
    origin_words f.origin ++ time_words f.time ++ recorder_words f.recorder ++ reduction_words f.reduction ++ status_words f.status
    ++ count_words f.count

abbrev pub words_of : Result (Option Tagged) Refusal → List ℕ
words_of answer = answer_words fields_words answer

-- Different answers have different words.
abbrev pub DifferentReads : Type 0
DifferentReads = Different words_of

-- ---- the calls

abbrev pub read_rules : List ℕ → List (Rule ℕ)
read_rules s = (50 when not (eqb (length s) record_size)) ∷ word_rules (header s)

-- The answer for header words that are accepted.
abbrev pub given_of : List ℕ → List ℕ
given_of w = 0 ∷ cond (tagged w) (fields_of w) []

unfoldable pub read_record : List ℕ → List ℕ
read_record s = judge (λ n. n ∷ []) (read_rules s) (given_of (header s))

unfoldable pub accepts : List ℕ → Bool
accepts s = none_applies (read_rules s)

-- The samples: where they start, and their bytes. If the record is refused, the empty part at its start.
unfoldable pub samples_start : List ℕ → ℕ
samples_start s = cond (accepts s) samples_at 0

unfoldable pub samples_part : List ℕ → List ℕ
samples_part s = cond (accepts s) (part s samples_at samples_size) []

-- Copies the header words into a lent list. A refusal leaves the list unchanged.
unfoldable pub read_words : (s list : List ℕ) → List ℕ × List ℕ
read_words s list =
    judge (λ n. (n ∷ [], list))
    ((50 when not (eqb (length s) record_size && eqb (length list) header_count)) ∷ word_rules (header s))
    (0 ∷ [], header s)
