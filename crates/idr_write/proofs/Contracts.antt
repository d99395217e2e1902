-- The round trip holds of the functions' contracts: the writer, the reader and the part call require nothing of a caller, and promise what the round
-- trip uses. `a` is the arguments, r the answer, e the arguments at exit. Assumes nothing.
use Prim.Native.Nat.{ℕ, ◌+◌, ◌<◌}
use mathlib.Core.List.{[], ◌∷◌}
use mathlib.Core.Path.{◌≡◌, sym, ap, ◌∙◌}
use lib.ListN.{get_or}
use Rattle.laws.proofs.Keeps.{Keeps}
use Rattle.idr.specs.Read.{words_of, read_record, read_words, samples_start, samples_part}
use Rattle.idr.specs.Rules.{outcome_number}
use Rattle.idr.proofs.read_record.Reads as read
use Rattle.idr.proofs.read_record.Kinds as read-kinds
use Rattle.idr.proofs.read_words.Reads as read-words
use Rattle.idr.proofs.read_words.Kinds as read-words-kinds
use Rattle.idr.proofs.samples.Reads as samples
use Rattle.idr.proofs.samples.Kinds as samples-kinds
use Rattle.idr_write.specs.Write.{write_record}
use Rattle.idr_write.specs.RoundTrip.{ReadsBack}
use Rattle.idr_write.proofs.RoundTrip.{written-reads-back}
use Rattle.idr_write.proofs.write_record.Reads as write
use Rattle.idr_write.proofs.write_record.Kinds as write-kinds

pub read-record-keeps : Keeps 1 read-kinds.ps read-kinds.r read.Asked read.Learnt (λ κs a r e. words_of r ≡ read_record a.0.now)
read-record-keeps = record { asks_nothing = λ κs a. tt; gives = λ κs a r e fits h. h }

pub read-words-keeps : Keeps 2 read-words-kinds.ps read-words-kinds.r read-words.Asked read-words.Learnt
    (λ κs a r e. (outcome_number r ∷ [], e.1.0.now) ≡ read_words a.0.now a.1.0.now)
read-words-keeps = record { asks_nothing = λ κs a. tt; gives = λ κs a r e fits h. h }

-- The samples are the record's own memory.
pub samples-keeps : Keeps 1 samples-kinds.ps samples-kinds.r samples.Asked samples.Learnt
    (λ κs a r e. (r.now ≡ samples_part a.0.now) × (r.ref_ptr.0 ≡ a.0.ref_ptr.0) × (r.ref_ptr.1 ≡ a.0.ref_ptr.1 + samples_start a.0.now))
samples-keeps = record { asks_nothing = λ κs a. tt; gives = λ κs a r e fits h. h }

-- Where the writer accepts, the reader and the part call give back of the slice at exit what was written.
pub write-record-keeps : Keeps 3 write-kinds.ps write-kinds.r write.Asked write.Learnt
    (λ κs a r e.
    let out = e.1.1.0.now in
    ((outcome_number r ∷ [], out) ≡ write_record a.0.now a.1.0.now a.1.1.0.now)
    × (((i : ℕ) → get_or a.0.now i 0 < 65536) → outcome_number r ≡ 0 → ReadsBack a.0.now a.1.0.now out))
write-record-keeps =
    record {
      asks_nothing = λ κs a. tt;
      gives = λ κs a r e fits h. (
        h,
        λ words done.
            let answered = sym (ap (λ o. o.0) h) ∙ ap (λ n. n ∷ []) done in
            rw (ap (λ o. o.1) h) (written-reads-back a.0.now a.1.0.now a.1.1.0.now words answered),
      );
    }
