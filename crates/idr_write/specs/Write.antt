-- Document 02, Req 04: the writer. Assumes nothing.
-- The manual, docs/INTERFACE.md: "Medium band tapes".
use Rattle.std.specs.Prelude.{ℕ, Bool, not, ◌&&◌, List, [], ◌∷◌, ◌++◌, eqb, length}
use Rattle.refusals.specs.Judge.{Rule, ◌when◌, judge}
use Rattle.octets.specs.Octets.{bytes_of}
use Rattle.idr.specs.Words.{word_size, header_count, samples_size, record_size}
use Rattle.idr.specs.Rules.{word_rules}

-- The bytes of words, upper byte first.
unfoldable pub word_bytes : List ℕ → List ℕ
word_bytes [] = []
word_bytes (x ∷ w) = bytes_of word_size x ++ word_bytes w

-- The caller lends a record of 5,056 bytes, 28 words and 5,000 samples.
unfoldable pub are_lengths : (words samples out : List ℕ) → Bool
are_lengths words samples out =
    eqb (length out) record_size && eqb (length words) header_count && eqb (length samples) samples_size

abbrev pub write_rules : (words samples out : List ℕ) → List (Rule ℕ)
write_rules words samples out = (50 when not (are_lengths words samples out)) ∷ word_rules words

-- The answer, and the lent record after the call: the words and the samples. A refusal leaves the record unchanged.
unfoldable pub write_record : (words samples out : List ℕ) → List ℕ × List ℕ
write_record words samples out =
    judge (λ n. (n ∷ [], out)) (write_rules words samples out) (0 ∷ [], word_bytes words ++ samples)
