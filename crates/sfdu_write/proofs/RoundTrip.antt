-- The round trip, both ways. Assumes nothing.
use Prim.Native.Nat.{ℕ, ◌-◌, ◌≤◌}
use native.Mathlib.Omega.{arith}
use mathlib.Core.Bool.{Bool, true, false, false≢true}
use mathlib.Core.List.{List, [], ◌∷◌, ◌++◌}
use mathlib.Core.Path.{◌≡◌, refl, sym, ap, subst, ◌∙◌}
use borrow.Author.Tests.{eq-eqb, le-leb, eqb-true, eqb-false, ltb-false, ltb-true}
use lib.Dec.{eqb, ltb}
use lib.ListN.{length, take, drop}
use Rattle.octets.specs.Octets.{part}
use Rattle.octets.proofs.Laws.{Bytes, length_part}
use Rattle.octets.proofs.Puts.{put-start}
use Rattle.sfdu.specs.declared.Kind.{Kind}
use Rattle.sfdu.specs.declared.Kind.TheVariants.{Telemetry, Rsr}
use Rattle.sfdu.specs.declared.Primary.{Primary}
use Rattle.sfdu.specs.Nesting.{kind_number, data_value_at, secondary_length, secondary_value_at, most_data}
use Rattle.sfdu.specs.Read.{primary_words, primary_of, kind_of, record_length, accepts, record_words, secondary_part, data_part}
use Rattle.sfdu_write.specs.Write.{record_bytes, is_input, size_of, write_one}
use Rattle.sfdu_write.specs.RoundTrip.{WrittenReadsBack, ReadWritesAgain}
use Rattle.sfdu.proofs.Placed.{placed}
use Rattle.sfdu.proofs.Accepted.{accepted, accepted-words, words-accepted}
use Rattle.sfdu_write.proofs.Written.{lengths, input-refused, space-refused, written, kind-refused, length-record}
use Rattle.sfdu_write.proofs.Back.{slice, record-read, secondary-read, data-read}
use Rattle.sfdu_write.proofs.Again.{record-part}

-- ---- what write one was given, where it answers N

pub record Wrote (number : ℕ) (secondary value out : List ℕ) (n : ℕ) : Type 0 where
  pub kind : Kind
  pub named : number ≡ kind_number kind
  pub input : is_input kind secondary value ≡ true
  pub size : n ≡ size_of kind value
  pub room : size_of kind value ≤ length out

module _ (p : Primary) (secondary value out : List ℕ) (n : ℕ) where
  wrote-kind : (k : Kind) → (write_one (kind_number k) p secondary value out).0 ≡ 0 ∷ n ∷ [] → Wrote (kind_number k) secondary value out n
  wrote-kind k e = by (is_input k secondary value) refl (ltb (length out) (size_of k value)) refl
    where
      by : (b : Bool) → is_input k secondary value ≡ b → (c : Bool) → ltb (length out) (size_of k value) ≡ c → Wrote (kind_number k) secondary value out n
      by false i c l =
          let w : 14 ∷ [] ≡ 0 ∷ n ∷ [] = sym (ap (λ x. x.0) (input-refused k p secondary value out i)) ∙ e in
          absurd (false≢true cc)
      by true i true l =
          let w : 13 ∷ [] ≡ 0 ∷ n ∷ [] = sym (ap (λ x. x.0) (space-refused k p secondary value out i (ltb-true _ _ l))) ∙ e in
          absurd (false≢true cc)
      by true i false l =
          let w : 0 ∷ size_of k value ∷ [] ≡ 0 ∷ n ∷ [] = sym (ap (λ x. x.0) (written k p secondary value out i (ltb-false _ _ l))) ∙ e in
          record { kind = k; named = refl; input = i; size = cc; room = ltb-false _ _ l }

  wrote : (number : ℕ) → (write_one number p secondary value out).0 ≡ 0 ∷ n ∷ [] → Wrote number secondary value out n
  wrote number e = by (eqb number (kind_number Telemetry)) refl (eqb number (kind_number Rsr)) refl
    where
      as-kind : (k : Kind) → number ≡ kind_number k → Wrote number secondary value out n
      as-kind k q =
          subst (λ (x : ℕ). Wrote x secondary value out n) (sym q)
          (wrote-kind k (subst (λ (x : ℕ). (write_one x p secondary value out).0 ≡ 0 ∷ n ∷ []) q e))

      by : (b : Bool) → eqb number (kind_number Telemetry) ≡ b → (c : Bool) → eqb number (kind_number Rsr) ≡ c → Wrote number secondary value out n
      by true t c r = as-kind Telemetry (eqb-true _ _ t)
      by false t true r = as-kind Rsr (eqb-true _ _ r)
      by false t false r =
          let w : 14 ∷ [] ≡ 0 ∷ n ∷ [] =
          sym (ap (λ x. x.0) (kind-refused number p secondary value out (eqb-false _ _ t) (eqb-false _ _ r))) ∙ e in
          absurd (false≢true cc)

-- ---- what the writer makes the reader gives back

pub written-reads-back : WrittenReadsBack
unfolding slice
written-reads-back number p secondary value out n e =
    let w = wrote p secondary value out n number e in
    let k = w.kind in
    let l = lengths k secondary value w.input in
    let rest = drop (size_of k value) out in
    let made : (write_one number p secondary value out).1 ≡ record_bytes k p secondary value ++ rest =
    ap (λ (x : ℕ). (write_one x p secondary value out).1) w.named
    ∙ ap (λ x. x.1) (written k p secondary value out w.input w.room)
    ∙ put-start out (record_bytes k p secondary value)
    ∙ ap (λ (x : ℕ). record_bytes k p secondary value ++ drop x out) (length-record k p secondary value l.0) in
    record {
      record-read = rw (made, record-read k p secondary value rest l.0 l.1, ← w.named, ← w.size);
      secondary-read = rw made (secondary-read k p secondary value rest l.0 l.1);
      data-read = rw made (data-read k p secondary value rest l.0 l.1);
    }

-- ---- what the reader accepts the writer makes again

pub read-writes-again : ReadWritesAgain
unfolding is_input secondary_part data_part part
read-writes-again s bytes number n p e out h =
    let b : Bytes s = λ i. record { fits = bytes i } in
    let a : accepts s ≡ true = words-accepted s (number ∷ n ∷ primary_words p) e in
    let f = accepted s a in
    let k = kind_of s in
    let q = placed k in
    let w : record_words k s ≡ 0 ∷ number ∷ n ∷ primary_words p = sym (accepted-words s a) ∙ e in
    let same_number : number ≡ kind_number k = cc in
    let same_size : n ≡ record_length s = cc in
    let same-primary : primary_words p ≡ primary_of s = cc in
    let secondary = part s secondary_value_at (secondary_length k) in
    let value = part s (data_value_at k) (record_length s - data_value_at k) in
    let sp : secondary_part s ≡ secondary = rw a in
    let vp : data_part s ≡ value = rw a in
    let ls : length secondary ≡ secondary_length k = length_part s secondary_value_at (secondary_length k) (omega (arith, f.whole, f.size, f.least)) in
    let lv : length value ≡ record_length s - data_value_at k = length_part s (data_value_at k) (record_length s - data_value_at k)
    (omega (arith, f.whole, f.size, f.least)) in
    let most : length value ≤ most_data = omega (arith, f.size, f.most) in
    let input : is_input k secondary value ≡ true = rw (eq-eqb _ _ ls, le-leb _ _ most) in
    let size : size_of k value ≡ n = omega (arith, f.size, f.least) in
    let made : record_bytes k p secondary value ≡ take n s =
    record-part s b f p same-primary ∙ ap (λ (x : ℕ). take x s) (sym same_size) in
    let done = written k p secondary value out input (omega arith) in
    rw (same_number, sp, vp) (done ∙ rw (put-start, length-record k p secondary value ls, size, made))
