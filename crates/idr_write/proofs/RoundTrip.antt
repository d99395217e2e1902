-- The round trip, both ways. Assumes nothing.
use Prim.Native.Nat.{ℕ, zero, suc, ◌+◌, ◌*◌, ◌<◌, ◌≤◌}
use native.Mathlib.Omega.{arith}
use mathlib.Core.List.{List, [], ◌∷◌, ◌++◌, append_assoc}
use mathlib.Core.Path.{◌≡◌, refl, sym, ap, subst, ◌∙◌}
use borrow.Author.Tests.{eqb-true, not-false}
use lib.Dec.{lit<}
use lib.ListN.{length, get_or, length-append}
use Rattle.laws.proofs.Bools.{and_split}
use Rattle.refusals.specs.Judge.{verdict}
use Rattle.refusals.proofs.Judged.{none-verdict}
use Rattle.octets.specs.Octets.{number_at, bytes_of, part}
use Rattle.octets.proofs.Laws.{Bytes, length-bytes_of, length_part}
use Rattle.octets.proofs.Parts.{number-first, number-second, number-bytes, bytes-number, part_join, part-whole, part-second}
use Rattle.idr.specs.Words.{word_size, header_count, samples_at, samples_size, record_size, words_at, header}
use Rattle.idr.specs.Rules.{word_rules}
use Rattle.idr.specs.Read.{read_rules, given_of, read_record, read_words}
use Rattle.idr_write.specs.Write.{word_bytes, are_lengths, write_rules, write_record}
use Rattle.idr_write.specs.RoundTrip.{WrittenReadsBack, ReadWritesAgain}
use Rattle.idr.proofs.Header.{length-header}
use Rattle.idr.proofs.Judging.{
  judge-accepted,
  zero-none,
  words-numbered,
  read-numbered,
  accepted-length,
  length-verdict,
  answer-accepted,
  samples-there,
  words-judged,
}
use Rattle.idr_write.proofs.Written.{length-word_bytes, write-judged}

-- ---- words and their bytes

words-past : (b t : List ℕ) (a c n : ℕ) → length b + c ≡ a → words_at (b ++ t) a n ≡ words_at t c n
unfolding words_at
words-past b t a c zero e = refl
words-past b t a c (suc n) e =
    rw (number-second b t a c word_size e, words-past b t (a + word_size) (c + word_size) n (omega arith))

words_back : (w t : List ℕ) → ((i : ℕ) → get_or w i 0 < 65536) → words_at (word_bytes w ++ t) 0 (length w) ≡ w
unfolding words_at word_bytes
words_back [] t h = refl
words_back (x ∷ w) t h =
    let b = bytes_of word_size x in
    let l : length b ≡ word_size = length-bytes_of word_size x in
    let all : word_bytes (x ∷ w) ++ t ≡ b ++ (word_bytes w ++ t) = append_assoc b (word_bytes w) t in
    let first : number_at (b ++ (word_bytes w ++ t)) 0 word_size ≡ x =
    number-first b (word_bytes w ++ t) 0 word_size (omega arith) ∙ number-bytes word_size x (h 0) in
    let rest : words_at (b ++ (word_bytes w ++ t)) word_size (length w) ≡ w =
    words-past b (word_bytes w ++ t) word_size 0 (length w) (omega arith) ∙ words_back w t (λ i. h (suc i)) in
    subst (λ s. number_at s 0 word_size ∷ words_at s word_size (length w) ≡ x ∷ w) (sym all) (rw (first, rest))

words-bytes : (s : List ℕ) (a n : ℕ) → Bytes s → a + n * word_size ≤ length s → word_bytes (words_at s a n) ≡ part s a (n * word_size)
unfolding words_at word_bytes part
words-bytes s a zero b h = refl
words-bytes s a (suc n) b h =
    rw (bytes-number s a word_size b (omega arith), words-bytes s (a + word_size) n b (omega arith))
    (part_join s a word_size (a + word_size) (n * word_size) (suc n * word_size) refl (omega arith))

-- ---- what is known of an accepted call

record Wrote (words samples out : List ℕ) : Type 0 where
  out-length : length out ≡ record_size
  words-length : length words ≡ header_count
  samples-length : length samples ≡ samples_size
  judged : 0 ≡ verdict (word_rules words)

wrote : (words samples out : List ℕ) → (write_record words samples out).0 ≡ 0 ∷ [] → Wrote words samples out
unfolding write_record are_lengths
wrote words samples out e =
    let h =
    zero-none (λ n. (n ∷ [], out)) (λ (p : List ℕ × List ℕ). get_or p.0 0 0) (λ n. refl) (write_rules words samples out)
    (0 ∷ [], word_bytes words ++ samples) (lit< tt, words-numbered words) (ap (λ (l : List ℕ). get_or l 0 0) e) in
    let l = and_split _ _ (not-false _ h.0) in
    let m = and_split _ _ l.0 in
    record {
      out-length = eqb-true _ _ m.0;
      words-length = eqb-true _ _ m.1;
      samples-length = eqb-true _ _ l.1;
      judged = sym (none-verdict (word_rules words) h.1);
    }

-- ---- what the writer makes the reader gives back

pub written-reads-back : WrittenReadsBack
unfolding header read_record
written-reads-back words samples out fit e =
    let w = wrote words samples out e in
    let s = word_bytes words ++ samples in
    let made : (write_record words samples out).1 ≡ s =
    ap (λ x. x.1) (write-judged words samples out w.out-length w.words-length w.samples-length
    ∙ judge-accepted (λ n. (n ∷ [], out)) (word_rules words) _ (words-numbered words) w.judged) in
    let lb : length (word_bytes words) ≡ samples_at = omega (arith, length-word_bytes words, w.words-length) in
    let l : length s ≡ record_size = omega (arith, length-append (word_bytes words) samples, w.samples-length) in
    let head : header s ≡ words =
    ap (λ (n : ℕ). words_at s 0 n) (sym w.words-length) ∙ words_back words samples fit in
    let accepted : 0 ≡ verdict (read_rules s) = w.judged ∙ ap (λ (x : List ℕ). verdict (word_rules x)) (sym head) ∙ sym (length-verdict s l) in
    record {
      record-read = rw made (judge-accepted (λ n. n ∷ []) (read_rules s) (given_of (header s)) (read-numbered s) accepted ∙ ap given_of head);
      words_read = λ list q.
          rw made
          (words-judged s list q
          ∙ judge-accepted (λ n. (n ∷ [], list)) (read_rules s) _ (read-numbered s) accepted
          ∙ ap (λ (x : List ℕ). (0 ∷ [], x)) head);
      samples_read =
          rw made ((samples-there s accepted).there ∙ part-second (word_bytes words) samples samples_at 0 samples_size (omega arith)
          ∙ part-whole samples samples_size w.samples-length);
    }

-- ---- what the reader accepts the writer makes again

pub read-writes-again : ReadWritesAgain
unfolding header read_record
read-writes-again s rest bytes e list out ll lo =
    let b : Bytes s = λ i. record { fits = bytes i } in
    let accepted : 0 ≡ verdict (read_rules s) = answer-accepted s rest e in
    let l : length s ≡ record_size = accepted-length s accepted in
    let given : read_words s list ≡ (0 ∷ [], header s) =
    words-judged s list ll ∙ judge-accepted (λ n. (n ∷ [], list)) (read_rules s) _ (read-numbered s) accepted in
    let value = part s samples_at samples_size in
    let lv : length value ≡ samples_size = length_part s samples_at samples_size (omega arith) in
    let whole : word_bytes (header s) ++ value ≡ s =
    ap (λ (x : List ℕ). x ++ value) (words-bytes s 0 header_count b (omega arith))
    ∙ part_join s 0 samples_at samples_at samples_size record_size refl refl
    ∙ part-whole s record_size l in
    rw (given, (samples-there s accepted).there)
    (write-judged (header s) value out lo (length-header s) lv
    ∙ judge-accepted (λ n. (n ∷ [], out)) (word_rules (header s)) _ (words-numbered (header s)) (accepted ∙ length-verdict s l)
    ∙ ap (λ (x : List ℕ). (0 ∷ [], x)) whole)
