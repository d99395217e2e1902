-- The program's walk compared with the library's: the same walk by other rules. They agree as follows, for every stream. Assumes nothing.
-- The manual, docs/INTERFACE.md: "The listing program".
use Rattle.std.specs.Prelude.{ℕ, ◌≤◌, Bool, true, false, ◌&&◌, List, [], ◌∷◌, ◌++◌, ◌≡◌, ltb, length, drop}
use Rattle.refusals.specs.Judge.{Rule, none_applies}
use Rattle.sfdu.specs.Read.{kind_of, record_length, label_rules, range_rule}
use Rattle.sfdu_stream.specs.declared.Entry.{Entry}
use Rattle.sfdu_stream.specs.Listing.{Listing as Walk, prepend, walk_by, walk_from}
use Rattle.sfdu_list_text.specs.Text.{heading}
use Rattle.sfdu_list_text.specs.Listing.{buffer_size, list_rules, text_of, listing}

-- The walk of the program.
abbrev pub program_walk : List ℕ → Walk
program_walk s = walk_by list_rules 0 s

-- The rules of read one up to 5, that the label's length is in the kind's range.
abbrev pub rules_to5 : List ℕ → List (Rule (List ℕ))
rules_to5 s = label_rules s ++ (range_rule (kind_of s) s ∷ [])

-- Whether a record longer than the buffer stands at this place: its label is right and says so.
unfoldable pub over : List ℕ → Bool
over s = none_applies (rules_to5 s) && ltb buffer_size (record_length s)

unfoldable pub over_at : List ℕ → ℕ → Bool
over_at s at = over (drop at s)

-- Up to the program's stop place, both walks find the same records. If a record longer than the buffer stands there, and only then, the program says
-- 17. Else it says all that the library's walk says: the records, the stop place, the refusal and its second number.
pub record UpToOver (s : List ℕ) : Type 0 where
  pub records : walk_from s 0 ≡ prepend (program_walk s).entries (walk_from s (program_walk s).stop)
  pub says-17 : over_at s (program_walk s).stop ≡ true → (program_walk s).why ≡ 17 ∷ []
  pub only_17 : (program_walk s).why ≡ 17 ∷ [] → over_at s (program_walk s).stop ≡ true
  pub says-walk : over_at s (program_walk s).stop ≡ false → program_walk s ≡ walk_from s 0

abbrev pub EveryStream : Type 0
EveryStream = (s : List ℕ) → UpToOver s

-- The library's walk meets no record longer than the buffer: it passes none, and none stands where it stops.
abbrev pub AllFit : List Entry → Type 0
AllFit [] = Unit {0}
AllFit (e ∷ es) = (e.length ≤ buffer_size) × AllFit es

pub record NoneOver (s : List ℕ) : Type 0 where
  pub passed : AllFit (walk_from s 0).entries
  pub stop : over_at s (walk_from s 0).stop ≡ false

-- Then the program finds what the library's walk finds, and its text is that walk's, with two numbers behind the stop place.
pub record Same (s : List ℕ) : Type 0 where
  pub walk : program_walk s ≡ walk_from s 0
  pub text : listing s ≡ heading ++ text_of (walk_from s 0)
  pub numbers : length (walk_from s 0).why ≡ 2

abbrev pub WhereNoneIsOver : Type 0
WhereNoneIsOver = (s : List ℕ) → NoneOver s → Same s
