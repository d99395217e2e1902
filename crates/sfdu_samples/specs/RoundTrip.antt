-- Document 02, Req 08, the round trip: a data part that is unpacked and packed again is the same; numbers that are packed and unpacked again are the
-- same. For every listed size. Assumes nothing.
-- The manual, docs/INTERFACE.md: "Samples".
use Rattle.std.specs.Prelude.{◌≡◌, ℕ, ◌<◌, ◌≤◌, true, List, [], ◌∷◌, length, take, ℤ, slice_index}
use Rattle.refusals.specs.Judge.{none_applies}
use Rattle.sfdu.specs.Read.{data_part}
use Rattle.sfdu_headers.specs.RsrRecord.{rsr_rules}
use Rattle.sfdu_samples.specs.Calls.{fills, size_of, rate_of, unpacking, packing}

-- If unpack answers N: pack, with the record's size and rate, makes the record's data part from the list's first N numbers, in any slice that has room.
abbrev pub UnpackedPacksAgain : Type 0
UnpackedPacksAgain =
    (s : List ℕ) → ((i : ℕ) → slice_index s i < 256) → (list : List ℤ) (n : ℕ) → (unpacking s list).0 ≡ 0 ∷ n ∷ []
    → (out : List ℕ) → length (data_part s) ≤ length out
    → packing (size_of s) (rate_of s) (take n (unpacking s list).1) out ≡ (0 ∷ length (data_part s) ∷ [], fills (data_part s) out)

-- If pack answers N: unpack gives the same numbers for every record that read headers accepts, and that has this size and rate and these N bytes as
-- data part, in any list that has room.
abbrev pub PackedUnpacksAgain : Type 0
PackedUnpacksAgain =
    (s : List ℕ) → none_applies (rsr_rules s) ≡ true
    → (xs : List ℤ) (out : List ℕ) (n : ℕ) → (packing (size_of s) (rate_of s) xs out).0 ≡ 0 ∷ n ∷ []
    → data_part s ≡ take n (packing (size_of s) (rate_of s) xs out).1
    → (list : List ℤ) → length xs ≤ length list → unpacking s list ≡ (0 ∷ length xs ∷ [], fills xs list)
