-- Document 02, Req 08: the refusals of unpack and pack, their answers, and the lent list after a call. Assumes nothing.
-- The manual, docs/INTERFACE.md: "Samples".
use Rattle.std.specs.Prelude.{ℕ, ◌%◌, not, List, [], ◌∷◌, ◌++◌, length, drop, ℤ, ◌==◌, nat_lt, Result}
use Rattle.refusals.specs.Judge.{Rule, ◌when◌, judge}
use Rattle.refusals.specs.Words.{result_words, one_word, Different}
use Rattle.sfdu.specs.declared.RecordRefusal.{RecordRefusal}
use Rattle.sfdu.specs.Read.{refusal_words, data_part}
use Rattle.sfdu_headers.specs.Fields.{byte_at, field_at}
use Rattle.sfdu_headers.specs.RsrRecord.{only, rsr_rules}
use Rattle.sfdu_samples.specs.Rates.{is_listed}
use Rattle.sfdu_samples.specs.Packing.{per_sample_word, unpacked, packed, all_coded}

-- The words of an answer: 0 and the count; or the refusal's number, with its second number if it has one.
abbrev pub words_of : Result ℕ RecordRefusal → List ℕ
words_of answer = result_words refusal_words one_word answer

-- Different answers have different words.
abbrev pub DifferentAnswers : Type 0
DifferentAnswers = Different words_of

-- A list whose first elements become xs; the others are unchanged.
abbrev pub fills : {A : Type 0} → List A → List A → List A
fills xs old = xs ++ drop (length xs) old

-- A call that writes xs into a lent list, unless a rule refuses it: the answer, and the list after the call.
abbrev pub writes : {A : Type 0} → List (Rule (List ℕ)) → (xs old : List A) → List ℕ × List A
writes rules xs old = judge (λ refusal. (refusal, old)) rules (0 ∷ length xs ∷ [], fills xs old)

-- ---- unpack

-- Document 004, section 3.5: how many bits a sample of record s has, and how many thousand samples a second has.
abbrev pub size_of : List ℕ → ℕ
size_of s = byte_at s 36

abbrev pub rate_of : List ℕ → ℕ
rate_of s = field_at s 38 2

-- The refusals of a data part d of this size and rate.
abbrev pub data_rules : (size rate : ℕ) → List ℕ → List ℤ → List (Rule (List ℕ))
data_rules size rate d old =
    (only 19 when not (is_listed size rate))
    ∷ (only 34 when not (length d % 4 == 0))
    ∷ (only 35 when nat_lt (length old) (length (unpacked size d)))
    ∷ []

-- The refusals of read headers for kind 2, then 19, 34, 35.
abbrev pub unpack_rules : List ℕ → List ℤ → List (Rule (List ℕ))
unpack_rules s old = rsr_rules s ++ data_rules (size_of s) (rate_of s) (data_part s) old

unfoldable pub unpacking : List ℕ → List ℤ → List ℕ × List ℤ
unpacking s old = writes (unpack_rules s old) (unpacked (size_of s) (data_part s)) old

-- ---- pack

abbrev pub pack_rules : (size rate : ℕ) → List ℤ → List ℕ → List (Rule (List ℕ))
pack_rules size rate xs old =
    (only 19 when not (is_listed size rate))
    ∷ (only 34 when not (length xs % per_sample_word size == 0))
    ∷ (only 37 when not (all_coded size xs))
    ∷ (only 35 when nat_lt (length old) (length (packed size xs)))
    ∷ []

unfoldable pub packing : (size rate : ℕ) → List ℤ → List ℕ → List ℕ × List ℕ
packing size rate xs old = writes (pack_rules size rate xs old) (packed size xs) old
