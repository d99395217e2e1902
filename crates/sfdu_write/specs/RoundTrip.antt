-- Demand 2, the round trip. The reader gives back what the writer wrote. The writer makes the same bytes again from what the reader gave. Assumes nothing.
-- The manual, docs/INTERFACE.md: "Calls on records".
use Rattle.std.specs.Prelude.{ℕ, ◌≤◌, ◌<◌, List, [], ◌∷◌, ◌++◌, ◌≡◌, length, get_or, take, drop}
use Rattle.sfdu.specs.declared.Primary.{Primary}
use Rattle.sfdu.specs.Read.{primary_words, read_one, secondary_part, data_part}
use Rattle.sfdu_write.specs.Write.{write_one}

-- If write one answers N: read one finds in the written slice the same kind, N and primary values, and the part calls give the same bytes.
pub record ReadsBack (number : ℕ) (p : Primary) (secondary value out : List ℕ) (n : ℕ) : Type 0 where
  pub record-read : read_one (write_one number p secondary value out).1 ≡ 0 ∷ number ∷ n ∷ primary_words p
  pub secondary-read : secondary_part (write_one number p secondary value out).1 ≡ secondary
  pub data-read : data_part (write_one number p secondary value out).1 ≡ value

abbrev pub WrittenReadsBack : Type 0
WrittenReadsBack =
    (number : ℕ) (p : Primary) (secondary value out : List ℕ) (n : ℕ)
    → (write_one number p secondary value out).0 ≡ 0 ∷ n ∷ [] → ReadsBack number p secondary value out n

-- If read one finds a record of N bytes, write one makes the same N bytes again from the record's kind, primary values and parts, in any slice that
-- has room for them.
abbrev pub ReadWritesAgain : Type 0
ReadWritesAgain =
    (s : List ℕ) → ((i : ℕ) → get_or s i 0 < 256) → (number n : ℕ) (p : Primary) → read_one s ≡ 0 ∷ number ∷ n ∷ primary_words p
    → (out : List ℕ) → n ≤ length out → write_one number p (secondary_part s) (data_part s) out ≡ (0 ∷ n ∷ [], take n s ++ drop n out)
