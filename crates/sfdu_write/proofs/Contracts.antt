-- The round trip is of the functions' contracts: write one, read one and the part calls ask nothing of a caller, and promise what the round
-- trip speaks of. `a` is the arguments, r the answer, e the arguments at exit. Assumes nothing.
use Prim.Native.Nat.{ℕ, ◌+◌}
use mathlib.Core.List.{[], ◌∷◌}
use mathlib.Core.Path.{◌≡◌, sym, ap, ◌∙◌}
use Rattle.laws.proofs.Keeps.{Keeps}
use Rattle.sfdu.specs.Read.{words_of, primary_words, read_one, secondary_start, secondary_part, data_start, data_part}
use Rattle.sfdu.proofs.read_one.Reads as read
use Rattle.sfdu.proofs.read_one.Kinds as read-kinds
use Rattle.sfdu.proofs.secondary_part.Reads as secondary
use Rattle.sfdu.proofs.secondary_part.Kinds as secondary-kinds
use Rattle.sfdu.proofs.data_part.Reads as value
use Rattle.sfdu.proofs.data_part.Kinds as value-kinds
use Rattle.sfdu_write.specs.Write.{write_one}
use Rattle.sfdu_write.specs.Write as Write
use Rattle.sfdu_write.proofs.RoundTrip.{written-reads-back}
use Rattle.sfdu_write.proofs.write_one.Reads as write
use Rattle.sfdu_write.proofs.write_one.Kinds as write-kinds

pub read-one-keeps : Keeps 1 read-kinds.ps read-kinds.r read.Asked read.Learnt (λ κs a r e. words_of r ≡ read_one a.0.now)
read-one-keeps = record { asks_nothing = λ κs a. tt; gives = λ κs a r e fits h. h }

-- A part is the slice's own memory, from its start on.
pub secondary-part-keeps : Keeps 1 secondary-kinds.ps secondary-kinds.r secondary.Asked secondary.Learnt
    (λ κs a r e. (r.now ≡ secondary_part a.0.now) × (r.ref_ptr.0 ≡ a.0.ref_ptr.0) × (r.ref_ptr.1 ≡ a.0.ref_ptr.1 + secondary_start a.0.now))
secondary-part-keeps = record { asks_nothing = λ κs a. tt; gives = λ κs a r e fits h. h }

pub data-part-keeps : Keeps 1 value-kinds.ps value-kinds.r value.Asked value.Learnt
    (λ κs a r e. (r.now ≡ data_part a.0.now) × (r.ref_ptr.0 ≡ a.0.ref_ptr.0) × (r.ref_ptr.1 ≡ a.0.ref_ptr.1 + data_start a.0.now))
data-part-keeps = record { asks_nothing = λ κs a. tt; gives = λ κs a r e fits h. h }

-- Where write one answers N, read one and the part calls give back of the slice at exit what was written.
pub write-one-keeps : Keeps 3 write-kinds.ps write-kinds.r write.Asked write.Learnt
    (λ κs a r e.
    let out = e.1.1.1.1.0.now in
    ((Write.words_of r, out) ≡ write_one a.0 a.1.0 a.1.1.0.now a.1.1.1.0.now a.1.1.1.1.0.now)
    × ((n : ℕ) → Write.words_of r ≡ 0 ∷ n ∷ []
    → (read_one out ≡ 0 ∷ a.0 ∷ n ∷ primary_words a.1.0) × (secondary_part out ≡ a.1.1.0.now) × (data_part out ≡ a.1.1.1.0.now)))
write-one-keeps =
    record {
      asks_nothing = λ κs a. tt;
      gives = λ κs a r e fits h. (
        h,
        λ n done.
            let back = written-reads-back a.0 a.1.0 a.1.1.0.now a.1.1.1.0.now a.1.1.1.1.0.now n (sym (ap (λ o. o.0) h) ∙ done) in
            rw (ap (λ o. o.1) h) (back.record-read, back.secondary-read, back.data-read),
      );
    }
