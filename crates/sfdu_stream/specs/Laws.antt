-- What holds of every walk and every list (document 01, "Calls on records" and refusal 16). Assumes nothing.
-- The manual, docs/INTERFACE.md: "Streams".
use Rattle.std.specs.Prelude.{ℕ, ◌≤◌, ◌<◌, true, false, List, [], ◌∷◌, map, ◌⊎◌, ◌≡◌, length, drop}
use Rattle.sfdu.specs.Read.{in_stream, read_one}
use Rattle.sfdu_stream.specs.declared.Entry.{Entry}
use Rattle.sfdu_stream.specs.Walk.{at_end, whole, past, full}
use Rattle.sfdu_stream.specs.Listing.{entry_at, Listing, listing, walk_from, walked, Columns, list_numbers, list_entries}

-- From one place to another, whole records follow each other without a gap, and each has its entry.
abbrev pub BackToBack : List ℕ → (from : ℕ) → List Entry → (to : ℕ) → Type 0
BackToBack s from [] to = from ≡ to
BackToBack s from (e ∷ es) to = (whole s from ≡ true) × (e ≡ entry_at s from) × BackToBack s (past s from) es to

-- A walk stops at the stream's end with 0; or before it, at a record that is not whole, with that record's refusal. The refusal's offset counts from
-- the stream's start.
abbrev pub StopsAtEnd : List ℕ → Listing → Type 0
StopsAtEnd s l = (l.stop ≡ length s) × (l.why ≡ at_end)

abbrev pub StopsRefused : List ℕ → Listing → Type 0
StopsRefused s l = (l.stop < length s) × (whole s l.stop ≡ false) × (l.why ≡ in_stream l.stop (read_one (drop l.stop s)))

pub record WalkRight (s : List ℕ) (l : Listing) : Type 0 where
  pub within : l.stop ≤ length s
  pub records : BackToBack s 0 l.entries l.stop
  pub stops : StopsAtEnd s l ⊎ StopsRefused s l

-- A list also stops at a whole record when no entry is free. It gives 16 exactly then.
abbrev pub Full : List ℕ → (size : ℕ) → Listing → Type 0
Full s size l = (whole s l.stop ≡ true) × (length l.entries ≡ size)

pub record ListRight (s : List ℕ) (size : ℕ) (l : Listing) : Type 0 where
  pub within : l.stop ≤ length s
  pub fits : length l.entries ≤ size
  pub records : BackToBack s 0 l.entries l.stop
  pub stops : StopsAtEnd s l ⊎ (StopsRefused s l ⊎ (Full s size l × (l.why ≡ full)))
  pub full_told : l.why ≡ full → Full s size l
  pub told_full : whole s l.stop ≡ true → l.why ≡ full

abbrev pub EveryWalk : Type 0
EveryWalk = (s : List ℕ) → WalkRight s (walk_from s 0)

-- The walk of an empty stream: no record, stop place 0, stop number 0, and 0 as second number.
abbrev pub EmptyWalk : Type 0
EmptyWalk = walked [] ≡ 0 ∷ 0 ∷ 0 ∷ 0 ∷ []

abbrev pub EveryList : Type 0
EveryList = (size : ℕ) (s : List ℕ) → ListRight s size (listing size s 0)

-- The number lists hold what the table of entries would hold, column by column.
abbrev pub columns_of : List Entry → Columns
columns_of es = record {
  places = map (λ (e : Entry). e.place) es;
  lengths = map (λ (e : Entry). e.length) es;
  kinds = map (λ (e : Entry). e.kind) es;
  numbers = map (λ (e : Entry). e.number) es;
}

abbrev pub SameInBothLayouts : Type 0
SameInBothLayouts = (s : List ℕ) (table : List Entry)
    → list_numbers s (columns_of table) ≡ ((list_entries s table).0, columns_of (list_entries s table).1)
