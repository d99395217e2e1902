-- Document 02, Req 12: how many entries a list needs so that no call ever answers 16 (list full). Assumes nothing.
-- The manual, docs/INTERFACE.md: "Streams".
use Rattle.std.specs.Prelude.{ℕ, ◌/◌, ◌≤◌, ◌<◌, List, [], ◌∷◌, ◌≢◌, ◌≡◌, length, get_or}
use Rattle.sfdu.specs.declared.Kind.{Kind}
use Rattle.sfdu.specs.declared.Kind.TheVariants.{Telemetry, Rsr}
use Rattle.sfdu.specs.Nesting.{kind_number, data_value_at}
use Rattle.sfdu_stream.specs.declared.Entry.{Entry}
use Rattle.sfdu_stream.specs.Listing.{walk_from, walked, Columns, shortest, list_numbers, list_entries}

-- No telemetry record is shorter than 120 bytes and no RSR record shorter than 260, where the data value starts. So a stream of this many bytes holds
-- at most this many records. Telemetry's number holds for every stream.
abbrev pub most_records : Kind → (bytes : ℕ) → ℕ
most_records k bytes = bytes / data_value_at k

-- The stop number in the answer of a walk or a list.
abbrev pub stop_number : List ℕ → ℕ
stop_number words = get_or words 2 0

-- n entries are enough for the stream s: it has no more whole records; and every list of n entries or more gives the walk's answer, and never 16.
pub record Enough (s : List ℕ) (n : ℕ) : Type 0 where
  pub no_more : length (walk_from s 0).entries ≤ n
  pub numbers_walked : (old : Columns) → n ≤ shortest old → (list_numbers s old).0 ≡ walked s
  pub numbers_never_16 : (old : Columns) → n ≤ shortest old → stop_number (list_numbers s old).0 ≢ 16
  pub table_walked : (old : List Entry) → n ≤ length old → (list_entries s old).0 ≡ walked s
  pub table_never_16 : (old : List Entry) → n ≤ length old → stop_number (list_entries s old).0 ≢ 16

abbrev pub EveryStream : Type 0
EveryStream = (s : List ℕ) → Enough s (most_records Telemetry (length s))

-- A stream of RSR records only: every whole record that the walk passes is RSR, also records behind the place where a list is full.
abbrev pub AllRsr : List Entry → Type 0
AllRsr [] = Unit {0}
AllRsr (e ∷ es) = (e.kind ≡ kind_number Rsr) × AllRsr es

abbrev pub RsrAlone : List ℕ → Type 0
RsrAlone s = AllRsr (walk_from s 0).entries

abbrev pub RsrStreams : Type 0
RsrStreams = (s : List ℕ) → RsrAlone s → Enough s (most_records Rsr (length s))

-- No smaller number is enough: for each length there is a stream that has this many whole records, and every shorter list answers 16 for it. For RSR,
-- that stream has RSR records only.
pub record Needed (k : Kind) (bytes : ℕ) : Type 0 where
  pub stream : List ℕ
  pub long : length stream ≡ bytes
  pub holds : length (walk_from stream 0).entries ≡ most_records k bytes
  pub alone : k ≡ Rsr → RsrAlone stream
  pub numbers_full : (old : Columns) → shortest old < most_records k bytes → stop_number (list_numbers stream old).0 ≡ 16
  pub table_full : (old : List Entry) → length old < most_records k bytes → stop_number (list_entries stream old).0 ≡ 16

abbrev pub LeastNumber : Type 0
LeastNumber = (k : Kind) (bytes : ℕ) → Needed k bytes
