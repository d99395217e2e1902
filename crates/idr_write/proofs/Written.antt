-- The bytes of header words: how many they are, and what one more word adds; and the call if the lengths are right. Assumes nothing.
use Prim.Native.Nat.{ℕ, ◌+◌, ◌*◌, ◌<◌}
use native.Mathlib.Numerals.{add-one}
use native.Mathlib.Omega.{arith}
use mathlib.Core.List.{List, [], ◌∷◌, ◌++◌, append_assoc, append-nil}
use mathlib.Core.Path.{◌≡◌, refl}
use borrow.Author.Tests.{eq-eqb}
use lib.ListN.{length, get_or, take, length-append}
use lib.Seq.{take-suc}
use Rattle.refusals.specs.Judge.{judge}
use Rattle.octets.specs.Octets.{bytes_of}
use Rattle.octets.proofs.Laws.{length-bytes_of}
use Rattle.idr.specs.Words.{word_size, header_count, samples_size, record_size}
use Rattle.idr.specs.Rules.{word_rules}
use Rattle.idr_write.specs.Write.{word_bytes, are_lengths, write_record}

pub length-word_bytes : (w : List ℕ) → length (word_bytes w) ≡ length w * word_size
unfolding word_bytes
length-word_bytes [] = refl
length-word_bytes (x ∷ w) =
    omega (arith, length-append (bytes_of word_size x) (word_bytes w), length-bytes_of word_size x, length-word_bytes w)

pub word_bytes-append : (w v : List ℕ) → word_bytes (w ++ v) ≡ word_bytes w ++ word_bytes v
unfolding word_bytes
word_bytes-append [] v = refl
word_bytes-append (x ∷ w) v = rw (word_bytes-append w v, append_assoc)

pub word_bytes-more : (w : List ℕ) (i : ℕ) → i < length w → word_bytes (take (i + 1) w) ≡ word_bytes (take i w) ++ bytes_of word_size (get_or w i 0)
unfolding word_bytes
word_bytes-more w i h = rw (add-one, take-suc w i 0 h, word_bytes-append, append-nil)

-- The writer, where the lengths are right.
pub write-judged : (words samples out : List ℕ) → length out ≡ record_size → length words ≡ header_count → length samples ≡ samples_size
    → write_record words samples out ≡ judge (λ n. (n ∷ [], out)) (word_rules words) (0 ∷ [], word_bytes words ++ samples)
unfolding write_record are_lengths judge
write-judged words samples out p q r = rw (eq-eqb _ _ p, eq-eqb _ _ q, eq-eqb _ _ r)
