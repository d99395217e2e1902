-- What the steps of the report give. Assumes nothing.
use Rattle.std.specs.Prelude.{ℕ, ◌+◌, ◌*◌, ◌≤◌, Bool, true, false, not, ◌&&◌, ◌||◌, List, [], ◌∷◌, ◌++◌, ◌≡◌, eqb, length, get_or, take, Option, Some, None}
use Rattle.octets.specs.Octets.{all}
use Rattle.ledger_model.specs.Positions.{row_length, size, missing}
use Rattle.ledger_model.specs.Book.{place_count, Place, free, row, Book, ticks_of}
use Rattle.ledger_model.specs.Counts.{first_gap_from}
use Rattle.ledger_model.specs.Tally.{ticked}
use Rattle.ledger_season.specs.Report.{most_sheets, missed}
use Rattle.ledger_sheet.specs.declared.Gap.{Gap}
use Rattle.ledger_season.specs.declared.Counted.{Counted}

-- The keys of the used places, in order; and those of all books.
unfoldable pub keys_of : List Place → List ℕ
keys_of [] = []
keys_of (free ∷ ps) = keys_of ps
keys_of (row key first ticks ∷ ps) = key ∷ keys_of ps

unfoldable pub keys_of_all : List Book → List ℕ
keys_of_all [] = []
keys_of_all (b ∷ bs) = keys_of b.places ++ keys_of_all bs

-- How many keys a season has at most.
abbrev pub most_keys : ℕ
most_keys = most_sheets * place_count

-- The most slots that keys are sorted into.
abbrev pub most_slots : ℕ
most_slots = 7699

-- Whether a number is in a list; whether all numbers of a list are different.
unfoldable pub is_in : ℕ → List ℕ → Bool
is_in x [] = false
is_in x (y ∷ ys) = eqb y x || is_in x ys

unfoldable pub distinct : List ℕ → Bool
distinct [] = true
distinct (x ∷ xs) = not (is_in x xs) && distinct xs

-- Whether the key is none of the first n.
unfoldable pub is_new : List ℕ → (n key : ℕ) → Bool
is_new keys n key = all n (λ j. not (eqb (get_or keys j 0) key))

-- Whether the first n keys are all different.
unfoldable pub are_new : List ℕ → ℕ → Bool
are_new keys n = all n (λ i. is_new keys i (get_or keys i 0))

-- The array had `found` keys, and now also has those of these places behind them.
pub record Keyed (before : List ℕ) (found : ℕ) (ps : List Place) (after : List ℕ) (now : ℕ) : Type 0 where
  pub few : now ≤ found + place_count
  pub long : length after ≡ length before
  pub keys_are : take now after ≡ take found before ++ keys_of ps

-- A row's gap; if there is none, `further`.
abbrev pub or_else : Option Gap → List ℕ → List ℕ
or_else None further = further
or_else (Some g) further = g.number ∷ g.row ∷ []

-- The counts of the places ps.
pub record Counts (ps : List Place) (r : Counted) : Type 0 where
  pub ticked-is : r.ticked ≡ ticked ps
  pub missing-is : r.missing ≡ missed ps
  pub gap_is : or_else r.gap [] ≡ first_gap_from 0 ps
  pub ticked-few : r.ticked ≤ row_length * place_count
  pub missing-few : r.missing ≤ row_length * place_count

-- The counts after one more place, p.
pub record Adds (p : Place) (place : ℕ) (before after : Counted) : Type 0 where
  pub ticked_more : after.ticked ≡ before.ticked + size (ticks_of p)
  pub missing_more : after.missing ≡ before.missing + size (missing (ticks_of p))
  pub gap_more : (further : List Place) → or_else after.gap (first_gap_from (place + 1) further) ≡ or_else before.gap (first_gap_from place (p ∷ further))
