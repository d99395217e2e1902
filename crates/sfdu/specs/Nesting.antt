-- Document 01, "How a record nests": the offsets of a record's parts, and their fixed values. Offsets count from the record's start. N is the
-- record's length in bytes. Assumes nothing.
-- The manual, docs/INTERFACE.md: "Records".
use Rattle.std.specs.Prelude.{ℕ, List}
use Rattle.octets.specs.Ascii.{ascii}
use Rattle.sfdu.specs.declared.Kind.{Kind}
use Rattle.sfdu.specs.declared.Kind.TheVariants.{Telemetry, Rsr}

-- The number of each kind.
abbrev pub kind_number : Kind → ℕ
kind_number Telemetry = 1
kind_number Rsr = 2

-- ---- the label, bytes 0 to 19

-- The label begins with three tags, at bytes 0 to 3, 4 to 7 and 8 to 11. Bytes 12 to 19 hold N - 20.
abbrev pub authority : List ℕ
authority = ascii "NJPL"

abbrev pub version_class : List ℕ
version_class = ascii "2I00"

abbrev pub kind_bytes : Kind → List ℕ
kind_bytes Telemetry = ascii "0800"
kind_bytes Rsr = ascii "C997"

abbrev pub authority_at : ℕ
authority_at = 0

abbrev pub version_class_at : ℕ
version_class_at = 4

abbrev pub kind_at : ℕ
kind_at = 8

-- The size in bytes of each of these three.
abbrev pub tag_size : ℕ
tag_size = 4

abbrev pub length_at : ℕ
length_at = 12

abbrev pub length_size : ℕ
length_size = 8

abbrev pub label_size : ℕ
label_size = 20

-- ---- the blocks: each has a label, which is two bytes of type and two bytes of length, and then its value

abbrev pub block_field_size : ℕ
block_field_size = 2

abbrev pub block_label_size : ℕ
block_label_size = 4

abbrev pub aggregation_at : ℕ
aggregation_at = 20

abbrev pub primary_at : ℕ
primary_at = 24

abbrev pub primary_value_at : ℕ
primary_value_at = 28

abbrev pub secondary_at : ℕ
secondary_at = 32

abbrev pub secondary_value_at : ℕ
secondary_value_at = 36

abbrev pub data_at : Kind → ℕ
data_at Telemetry = 116
data_at Rsr = 256

abbrev pub data_value_at : Kind → ℕ
data_value_at Telemetry = 120
data_value_at Rsr = 260

abbrev pub aggregation_length : Kind → ℕ
aggregation_length Telemetry = 92
aggregation_length Rsr = 232

abbrev pub primary_length : ℕ
primary_length = 4

abbrev pub secondary_length : Kind → ℕ
secondary_length Telemetry = 80
secondary_length Rsr = 220

-- The type numbers of sections 3.3 to 3.6 of documents 000 and 004.
abbrev pub aggregation_type : ℕ
aggregation_type = 1

abbrev pub primary_type : ℕ
primary_type = 2

abbrev pub secondary_type : Kind → ℕ
secondary_type Telemetry = 78
secondary_type Rsr = 104

abbrev pub data_type : ℕ
data_type = 10

-- The longest data value that the 16 bits of its length can state.
abbrev pub most_data : ℕ
most_data = 65535

-- The least and the greatest length in a label: a record with no data, and one with the most data.
abbrev pub least_label_length : Kind → ℕ
least_label_length Telemetry = 100
least_label_length Rsr = 240

abbrev pub most_label_length : Kind → ℕ
most_label_length Telemetry = 65635
most_label_length Rsr = 65775
