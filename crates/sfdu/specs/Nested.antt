-- Document 01, "How a record nests". If read one accepts a slice, each block of the record ends within the field that encloses it, and the blocks
-- fill the record to its last byte. Document 01 tests refusal 18 after 1 to 11; so no call ever gives 18. Assumes nothing.
-- The manual, docs/INTERFACE.md: "Records".
use Rattle.std.specs.Prelude.{ℕ, ◌+◌, ◌≤◌, Bool, true, ◌||◌, List, [], ◌∷◌, ◌++◌, ◌≢◌, ◌≡◌, ltb}
use Rattle.refusals.specs.Judge.{◌when◌, answered}
use Rattle.sfdu.specs.declared.Kind.{Kind}
use Rattle.sfdu.specs.Nesting.{label_size, block_label_size, aggregation_at, primary_at, secondary_at, data_at}
use Rattle.sfdu.specs.Read.{kind_of, record_length, block_length, ◌giving◌, read_rules, accepts, record_words, read_one}

-- The four blocks of a record.
pub data Block : Type 0 where
  aggregation primary secondary data_block : Block

-- Where a block's label starts.
abbrev pub start_of : Kind → Block → ℕ
start_of k aggregation = aggregation_at
start_of k primary = primary_at
start_of k secondary = secondary_at
start_of k data_block = data_at k

-- Where the value of the block at index `at` ends.
unfoldable pub block_end : List ℕ → ℕ → ℕ
block_end s at = at + block_label_size + block_length s at

-- Where the field that encloses a block ends. The record encloses the aggregation and the data block; the aggregation's value encloses the primary
-- and the secondary block.
abbrev pub enclosing_end : List ℕ → Block → ℕ
enclosing_end s aggregation = record_length s
enclosing_end s primary = block_end s aggregation_at
enclosing_end s secondary = block_end s aggregation_at
enclosing_end s data_block = record_length s

pub record Nested (k : Kind) (s : List ℕ) : Type 0 where
  -- Each block ends within the field that encloses it.
  pub within : (b : Block) → block_end s (start_of k b) ≤ enclosing_end s b
  -- Label, aggregation and data block follow each other without a gap, up to the record's last byte.
  pub behind_label : aggregation_at ≡ label_size
  pub behind_aggregation : data_at k ≡ block_end s aggregation_at
  pub to_the_last_byte : block_end s (data_at k) ≡ record_length s
  -- Primary and secondary block follow each other without a gap, from the aggregation's first byte to its last.
  pub from_the_first : primary_at ≡ aggregation_at + block_label_size
  pub behind_primary : secondary_at ≡ block_end s primary_at
  pub fill_aggregation : block_end s secondary_at ≡ block_end s aggregation_at

abbrev pub AcceptedNest : Type 0
AcceptedNest = (s : List ℕ) → accepts s ≡ true → Nested (kind_of s) s

-- ---- document 01's refusal 18: a block ends outside the field that encloses it

abbrev pub ends_past : Kind → List ℕ → Block → Bool
ends_past k s b = ltb (enclosing_end s b) (block_end s (start_of k b))

abbrev pub some_ends_past : Kind → List ℕ → Bool
some_ends_past k s = ends_past k s aggregation || ends_past k s primary || ends_past k s secondary || ends_past k s data_block

-- Read one with the rule of 18 as its last; m is any number that goes with 18.
unfoldable pub read_with18 : ℕ → List ℕ → List ℕ
read_with18 m s = answered (read_rules s ++ (18 giving m when some_ends_past (kind_of s) s) ∷ []) (record_words (kind_of s) s)

-- 18 is never given, and leaving its rule out changes no answer.
pub record Without18 (m : ℕ) (s : List ℕ) : Type 0 where
  pub never : (rest : List ℕ) → read_with18 m s ≢ 18 ∷ rest
  pub same : read_with18 m s ≡ read_one s

abbrev pub Never18 : Type 0
Never18 = (m : ℕ) (s : List ℕ) → Without18 m s
