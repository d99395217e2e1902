-- Document 01, "Calls on records": the records that a walk passes or a list holds ("packing list"), and where it stops. The walk, the number lists
-- and the table of entries share one definition. Assumes nothing.
-- The manual, docs/INTERFACE.md: "Streams".
use Rattle.std.specs.Prelude.{ℕ, zero, suc, ◌+◌, min, cond, List, [], ◌∷◌, ◌++◌, map, length, drop}
use Rattle.sfdu.specs.Nesting.{kind_number}
use Rattle.sfdu.specs.Read.{kind_of, record_length, read_rules}
use Rattle.sfdu_headers.specs.Fields.{record_number}
use Rattle.sfdu_stream.specs.declared.Entry.{Entry}
use Rattle.sfdu_stream.specs.Walk.{Rules, whole_by, full, refusal_by}

-- The entry of the whole record at a place; s is the stream from that place on.
unfoldable pub entry_of : (place : ℕ) → List ℕ → Entry
entry_of place s = record {
  place = place;
  length = record_length s;
  kind = kind_number (kind_of s);
  number = record_number (kind_of s) s;
}

-- The entry of the whole record at index `at` of the stream s.
unfoldable pub entry_at : List ℕ → ℕ → Entry
entry_at s at = entry_of at (drop at s)

-- The entries, the place where the walk or list stops, and the stop number with its second number.
pub record Listing : Type 0 where
  pub entries : List Entry
  pub stop : ℕ
  pub why : List ℕ

abbrev pub stopped : ℕ → List ℕ → Listing
stopped at why = record { entries = []; stop = at; why = why }

abbrev pub prepend : List Entry → Listing → Listing
prepend es l = record { entries = es ++ l.entries; stop = l.stop; why = l.why }

-- Lists the records from a place on. Stops at the first place without a whole record, or with 16 at a whole record when no entry is free. `rules` are
-- the refusals of a record; s is the stream from the place on.
unfoldable pub listing_by : Rules → (free place : ℕ) → List ℕ → Listing
listing_by rules zero place s = cond (whole_by rules s) (stopped place full) (stopped place (refusal_by rules place s))
listing_by rules (suc free) place s =
    cond (whole_by rules s)
    (prepend (entry_of place s ∷ []) (listing_by rules free (place + record_length s) (drop (record_length s) s)))
    (stopped place (refusal_by rules place s))

-- The same by the rules of read one.
unfoldable pub listing : (free : ℕ) → List ℕ → (at : ℕ) → Listing
listing free s at = listing_by read_rules free at (drop at s)

-- The answer: how many records, the stop place, the stop number and its second number.
abbrev pub answer : Listing → List ℕ
answer l = length l.entries ∷ l.stop ∷ l.why

-- ---- the walk

-- A walk has one entry for each byte, so it never runs out of entries (the law `enough-by`).
unfoldable pub walk_by : Rules → (place : ℕ) → List ℕ → Listing
walk_by rules place s = listing_by rules (length s) place s

-- The same by the rules of read one.
unfoldable pub walk_from : List ℕ → (at : ℕ) → Listing
walk_from s at = walk_by read_rules at (drop at s)

unfoldable pub walked : List ℕ → List ℕ
walked s = answer (walk_from s 0)

-- ---- the lists

-- A list whose first elements become xs; the others are unchanged.
abbrev pub fills {ℓ} : {A : Type ℓ} → List A → List A → List A
fills xs old = xs ++ drop (length xs) old

-- The four lists of plain numbers, one for each field of an entry.
pub record Columns : Type 0 where
  pub places : List ℕ
  pub lengths : List ℕ
  pub kinds : List ℕ
  pub numbers : List ℕ

-- Number lists hold as many records as the shortest of them has room for.
abbrev pub shortest : Columns → ℕ
shortest c = min (min (length c.places) (length c.lengths)) (min (length c.kinds) (length c.numbers))

abbrev pub fills_columns : List Entry → Columns → Columns
fills_columns es old = record {
  places = fills (map (λ (e : Entry). e.place) es) old.places;
  lengths = fills (map (λ (e : Entry). e.length) es) old.lengths;
  kinds = fills (map (λ (e : Entry). e.kind) es) old.kinds;
  numbers = fills (map (λ (e : Entry). e.number) es) old.numbers;
}

-- The answer, and the lists after the call.
unfoldable pub list_numbers : List ℕ → Columns → List ℕ × Columns
list_numbers s old = let l = listing (shortest old) s 0 in (answer l, fills_columns l.entries old)

-- The same for a table of entries.
unfoldable pub list_entries : List ℕ → List Entry → List ℕ × List Entry
list_entries s old = let l = listing (length old) s 0 in (answer l, fills l.entries old)
