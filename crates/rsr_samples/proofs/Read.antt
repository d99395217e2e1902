-- The bytes of one record. Assumes nothing.
use Rattle.std.proofs.Common.{◌≡◌, ℕ, zero, suc, ◌+◌, ◌<◌, ◌≤◌, Bool, true, false, leb, List, length, take, sym, refl, ap, ◌∙◌, arith, get_or-take, le-leb}
use Rattle.std.proofs.Common.{leb-false, leb-true}
use borrow.Author.Tests.{lt-leb}
use Rattle.octets.specs.Octets.{number_at}
use Rattle.sfdu.specs.Nesting.{label_size}
use Rattle.sfdu.specs.Read.{label_length, record_length}
use Rattle.sfdu.proofs.Accepted.{record-length}
use Rattle.streaming.specs.Window.{window_size}
use Rattle.streaming.specs.inner.Reading.{Behind}
use Rattle.rsr_samples.specs.Parts.{OfOne}
use Rattle.rsr_samples.specs.inner.Reading.{wanted_of}

-- ---- how many bytes are wanted

module _ (s : List ℕ) where
  pub wanted-over : window_size ≤ record_length s → wanted_of s ≡ window_size
  wanted-over h = rw (le-leb window_size (record_length s) h)

  pub wanted-whole : record_length s < window_size → wanted_of s ≡ record_length s
  wanted-whole h = rw (lt-leb window_size (record_length s) h)

  pub record Wanted : Type 0 where
    pub least : label_size ≤ wanted_of s
    pub most : wanted_of s ≤ window_size
    pub one : wanted_of s ≤ record_length s

  pub wanted : Wanted
  wanted = by (leb window_size (record_length s)) refl
    where
      by : (b : Bool) → leb window_size (record_length s) ≡ b → Wanted
      by true e =
          let over = leb-true window_size (record_length s) e in
          let is = wanted-over over in
          record { least = omega arith; most = omega arith; one = omega arith }
      by false e =
          let whole = leb-false window_size (record_length s) e in
          let is = wanted-whole whole in
          record { least = omega (arith, record-length s (label_length s) refl); most = omega arith; one = omega arith }

-- ---- the bytes of one record

number-take : (s : List ℕ) (a n m : ℕ) → a + n ≤ m → number_at (take m s) a n ≡ number_at s a n
unfolding number_at
number-take s a zero m h = refl
number-take s a (suc n) m h = rw (number-take s a n m (omega arith), get_or-take m s (a + n) 0 (omega arith))

-- a record's length is in its label
length-take : (s : List ℕ) (n : ℕ) → label_size ≤ n → record_length (take n s) ≡ record_length s
unfolding record_length label_length
length-take s n h = rw (number-take s 12 8 n (omega arith))

module _ (new : List ℕ) (upto : ℕ) (size : length new ≡ window_size) where
  pub of-label : upto ≤ label_size → OfOne new upto
  of-label h = record { within = omega arith; one = λ l. omega (arith, record-length (take upto new) (label_length (take upto new)) refl) }

  pub of-record : (mid : List ℕ) (got : ℕ) → label_size + got ≡ upto → Behind mid label_size (wanted_of mid) new got → OfOne new upto
  of-record mid got sum f =
      let w = wanted mid in
      let same : record_length (take upto new) ≡ record_length mid =
      length-take new upto (omega arith) ∙ sym (length-take new label_size (omega arith))
      ∙ ap record_length f.held ∙ length-take mid label_size (omega arith) in
      record { within = omega (arith, f.within, w.most); one = λ l. omega (arith, f.within, w.one) }
