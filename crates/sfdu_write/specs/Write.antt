-- Document 01, "Calls on records": write one, and refusals 14 and 13. Assumes nothing.
-- The manual, docs/INTERFACE.md: "Calls on records".
use Rattle.std.specs.Prelude.{ℕ, Result, ◌+◌, ◌-◌, Bool, not, cond, ◌&&◌, ◌||◌, List, [], ◌∷◌, ◌++◌, length, drop, eqb, leb, ltb}
use Rattle.refusals.specs.Judge.{◌when◌, judge}
use Rattle.refusals.specs.declared.Refusal.{Refusal}
use Rattle.refusals.specs.Words.{answer_words, one_word, Different}
use Rattle.octets.specs.Octets.{bytes_of}
use Rattle.sfdu.specs.declared.Kind.{Kind}
use Rattle.sfdu.specs.declared.Kind.TheVariants.{Telemetry, Rsr}
use Rattle.sfdu.specs.declared.Primary.{Primary}
use Rattle.sfdu.specs.Nesting.{
  kind_number,
  authority,
  version_class,
  kind_bytes,
  length_size,
  label_size,
  block_field_size,
  data_value_at,
  aggregation_length,
  primary_length,
  secondary_length,
  aggregation_type,
  primary_type,
  secondary_type,
  data_type,
  most_data,
}
use Rattle.sfdu.specs.Read.{primary_words}

-- The answer of write one: 0 and N, or the refusal's number.
abbrev pub words_of : Result ℕ Refusal → List ℕ
words_of answer = answer_words one_word answer

-- Different answers have different words.
abbrev pub DifferentWrites : Type 0
DifferentWrites = Different words_of

-- ---- the bytes of a record

unfoldable pub label_bytes : Kind → (n : ℕ) → List ℕ
label_bytes k n = authority ++ version_class ++ kind_bytes k ++ bytes_of length_size (n - label_size)

unfoldable pub block : (type : ℕ) → (size : ℕ) → List ℕ
block type size = bytes_of block_field_size type ++ bytes_of block_field_size size

unfoldable pub primary_block : Primary → List ℕ
primary_block p = block primary_type primary_length ++ primary_words p

-- The bytes before the secondary value.
unfoldable pub head_bytes : Kind → Primary → (n : ℕ) → List ℕ
head_bytes k p n =
    label_bytes k n ++ block aggregation_type (aggregation_length k) ++ primary_block p ++ block (secondary_type k) (secondary_length k)

unfoldable pub record_bytes : Kind → Primary → (secondary value : List ℕ) → List ℕ
record_bytes k p secondary value =
    head_bytes k p (data_value_at k + length value) ++ secondary ++ block data_type (length value) ++ value

-- ---- the call

-- The kind with this number.
unfoldable pub is_kind : ℕ → Bool
is_kind number = eqb number (kind_number Telemetry) || eqb number (kind_number Rsr)

unfoldable pub kind_named : ℕ → Kind
kind_named number = cond (eqb number (kind_number Telemetry)) Telemetry Rsr

-- The secondary value has the kind's length, and the data's length fits 16 bits.
unfoldable pub is_input : Kind → (secondary value : List ℕ) → Bool
is_input k secondary value = eqb (length secondary) (secondary_length k) && leb (length value) most_data

-- The length N of the record.
abbrev pub size_of : Kind → (value : List ℕ) → ℕ
size_of k value = data_value_at k + length value

-- The answer, and the lent slice after the call: the record, then the bytes that stood there. A refusal leaves the slice unchanged.
unfoldable pub write_one : (number : ℕ) → Primary → (secondary value out : List ℕ) → List ℕ × List ℕ
write_one number p secondary value out =
    let k = kind_named number in
    judge (λ n. (n ∷ [], out))
    ((14 when not (is_kind number && is_input k secondary value)) ∷ (13 when ltb (length out) (size_of k value)) ∷ [])
    (0 ∷ size_of k value ∷ [], record_bytes k p secondary value ++ drop (size_of k value) out)
