-- Document 01, "Calls on records" and "Refusal numbers" 1 to 11, and document 02, Req 05: the first record of a lent slice s. Assumes nothing.
-- The manual, docs/INTERFACE.md: "Calls on records".
use Rattle.std.specs.Prelude.{ℕ, Result, ◌+◌, ◌-◌, Bool, not, cond, ◌&&◌, ◌||◌, List, [], ◌∷◌, ◌++◌, length, get_or, eqb, leb, ltb}
use Rattle.refusals.specs.Judge.{Rule, ◌when◌, each, answered, none_applies}
use Rattle.refusals.specs.Table.{number_of}
use Rattle.refusals.specs.Words.{result_words, refusal_word, Different}
use Rattle.octets.specs.Octets.{number_at, part, same_at}
use Rattle.sfdu.specs.declared.Kind.{Kind}
use Rattle.sfdu.specs.declared.Kind.TheVariants.{Telemetry, Rsr}
use Rattle.sfdu.specs.declared.Fault.{Fault}
use Rattle.sfdu.specs.declared.Primary.{Primary}
use Rattle.sfdu.specs.declared.Record.{Record}
use Rattle.sfdu.specs.declared.RecordRefusal.{RecordRefusal}
use Rattle.sfdu.specs.declared.RecordRefusal.TheVariants.{Fault as FaultRefusal, Alone}
use Rattle.sfdu.specs.Nesting.{
  kind_number,
  authority,
  version_class,
  kind_bytes,
  authority_at,
  version_class_at,
  kind_at,
  tag_size,
  length_at,
  length_size,
  label_size,
  block_field_size,
  aggregation_at,
  primary_at,
  primary_value_at,
  secondary_at,
  secondary_value_at,
  data_at,
  data_value_at,
  aggregation_length,
  primary_length,
  secondary_length,
  aggregation_type,
  primary_type,
  secondary_type,
  data_type,
  least_label_length,
  most_label_length,
}

-- ---- the words of the answers

abbrev pub primary_words : Primary → List ℕ
primary_words p = p.major ∷ p.minor ∷ p.mission ∷ p.format ∷ []

-- A refusal: its number and its second number.
abbrev pub fault_words : Fault → List ℕ
fault_words f = number_of f.refusal ∷ f.at ∷ []

-- A refusal of a call that reads a record first: its number, and its second number if it has one.
abbrev pub refusal_words : RecordRefusal → List ℕ
refusal_words (FaultRefusal f) = fault_words f
refusal_words (Alone r) = refusal_word r

-- The kind, N and the four primary values.
abbrev pub values_of : Record → List ℕ
values_of r = kind_number r.kind ∷ r.size ∷ primary_words r.primary

-- Read one: 0, the kind, N and the four primary values, or the refusal.
abbrev pub words_of : Result Record Fault → List ℕ
words_of answer = result_words fault_words values_of answer

-- Different answers have different words.
abbrev pub DifferentReads : Type 0
DifferentReads = Different words_of

-- ---- the parts of the label

unfoldable pub has_kind : Kind → List ℕ → Bool
has_kind k s = same_at s kind_at (kind_bytes k) 0 tag_size

-- The kind that bytes 8 to 11 spell, if they spell one of the two.
unfoldable pub kind_of : List ℕ → Kind
kind_of s = cond (has_kind Telemetry s) Telemetry Rsr

unfoldable pub label_length : List ℕ → ℕ
label_length s = number_at s length_at length_size

-- The length N of the record.
unfoldable pub record_length : List ℕ → ℕ
record_length s = label_size + label_length s

-- The type and the length of the block at index `at`.
unfoldable pub block_type : List ℕ → ℕ → ℕ
block_type s at = number_at s at block_field_size

unfoldable pub block_length : List ℕ → ℕ → ℕ
block_length s at = number_at s (at + block_field_size) block_field_size

-- ---- the refusals, in the order of the table

unfoldable pub length_in_range : Kind → List ℕ → Bool
length_in_range k s = leb (least_label_length k) (label_length s) && leb (label_length s) (most_label_length k)

-- "n giving m when c": refusal n, with second number m. For refusals 1 and 6, m is how many bytes the slice has. For others, m is the offset of the
-- first byte of the wrong field.
infix 45 ◌giving◌
abbrev pub ◌giving◌ : ℕ → ℕ → List ℕ
n giving m = n ∷ m ∷ []

abbrev pub tag_rules : List ℕ → List (Rule (List ℕ))
tag_rules s =
    (2 giving authority_at when not (same_at s authority_at authority 0 tag_size))
    ∷ (3 giving version_class_at when not (same_at s version_class_at version_class 0 tag_size))
    ∷ (4 giving kind_at when not (has_kind Telemetry s || has_kind Rsr s))
    ∷ []

abbrev pub label_rules : List ℕ → List (Rule (List ℕ))
label_rules s = (1 giving length s when ltb (length s) label_size) ∷ tag_rules s

abbrev pub range_rule : Kind → List ℕ → Rule (List ℕ)
range_rule k s = 5 giving length_at when not (length_in_range k s)

abbrev pub cut_rule : List ℕ → Rule (List ℕ)
cut_rule s = 6 giving length s when ltb (length s) (record_length s)

abbrev pub length_rules : Kind → List ℕ → List (Rule (List ℕ))
length_rules k s = range_rule k s ∷ cut_rule s ∷ []

-- The offset of the first wrong field of a block's label: its type, then its length.
abbrev pub type_and_length : List ℕ → (at type size : ℕ) → List (Rule ℕ)
type_and_length s at type size = (at when not (eqb (block_type s at) type)) ∷ ((at + block_field_size) when not (eqb (block_length s at) size)) ∷ []

abbrev pub block_rules : (n : ℕ) → List ℕ → (at type size : ℕ) → List (Rule (List ℕ))
block_rules n s at type size = each (λ field. n giving field) (type_and_length s at type size)

abbrev pub header_rules : Kind → List ℕ → List (Rule (List ℕ))
header_rules k s =
    block_rules 7 s aggregation_at aggregation_type (aggregation_length k) ++ block_rules 8 s primary_at primary_type primary_length
    ++ block_rules 9 s secondary_at (secondary_type k) (secondary_length k)

abbrev pub data_rules : Kind → List ℕ → List (Rule (List ℕ))
data_rules k s =
    (10 giving data_at k when not (eqb (block_type s (data_at k)) data_type))
    ∷ (11 giving (data_at k + block_field_size) when not (eqb (block_length s (data_at k)) (record_length s - data_value_at k)))
    ∷ []

abbrev pub read_rules : List ℕ → List (Rule (List ℕ))
read_rules s = label_rules s ++ length_rules (kind_of s) s ++ header_rules (kind_of s) s ++ data_rules (kind_of s) s

-- 1 and 6 give a count of bytes as second number.
unfoldable pub is_count : ℕ → Bool
is_count n = eqb n 1 || eqb n 6

-- The refusal of the record at a place of a stream. Its offset counts from the stream's start; the byte counts of 1 and 6 do not change.
unfoldable pub in_stream : (place : ℕ) → List ℕ → List ℕ
in_stream place [] = []
in_stream place (n ∷ []) = n ∷ []
in_stream place (n ∷ m ∷ rest) = n ∷ cond (is_count n) m (place + m) ∷ rest

-- Read one accepts the slice.
unfoldable pub accepts : List ℕ → Bool
accepts s = none_applies (read_rules s)

-- ---- the calls

abbrev pub primary_of : List ℕ → List ℕ
primary_of s = get_or s primary_value_at 0 ∷ get_or s (primary_value_at + 1) 0 ∷ get_or s (primary_value_at + 2) 0 ∷ get_or s (primary_value_at + 3) 0 ∷ []

abbrev pub record_words : Kind → List ℕ → List ℕ
record_words k s = 0 ∷ kind_number k ∷ record_length s ∷ primary_of s

unfoldable pub read_one : List ℕ → List ℕ
read_one s = answered (read_rules s) (record_words (kind_of s) s)

-- The part calls: where the part starts, and its bytes. If read one refuses, the empty part at the slice's start.
unfoldable pub secondary_start : List ℕ → ℕ
secondary_start s = cond (accepts s) secondary_value_at 0

unfoldable pub secondary_part : List ℕ → List ℕ
secondary_part s = cond (accepts s) (part s secondary_value_at (secondary_length (kind_of s))) []

unfoldable pub data_start : List ℕ → ℕ
data_start s = cond (accepts s) (data_value_at (kind_of s)) 0

unfoldable pub data_part : List ℕ → List ℕ
data_part s = cond (accepts s) (part s (data_value_at (kind_of s)) (record_length s - data_value_at (kind_of s))) []
