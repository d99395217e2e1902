-- Different answers have different words. Assumes nothing.
use Prim.Native.Nat.{ℕ}
use mathlib.Core.List.{List}
use mathlib.Core.Path.{◌≡◌, refl, sym, ap}
use lib.ListN.{get_or, take, drop}
use Rattle.std.specs.Prelude.{Option, Some, None, Ok, Err}
use Rattle.refusals.specs.Words.{Different}
use Rattle.refusals.proofs.Laws.{number-injective, number-positive}
use Rattle.refusals.proofs.Words.{answers-differ}
use Rattle.idr.specs.declared.Origin.{Origin}
use Rattle.idr.specs.declared.Time.{Time}
use Rattle.idr.specs.declared.Recorder.{Recorder}
use Rattle.idr.specs.declared.Reduction.{Reduction}
use Rattle.idr.specs.declared.Status.{Status}
use Rattle.idr.specs.Rules.{DifferentOutcomes}
use Rattle.idr.specs.Read.{origin_words, time_words, recorder_words, reduction_words, status_words, count_words, fields_words, DifferentReads}

-- Word k, and n words from word k on.
word : (k : ℕ) {a b : List ℕ} → a ≡ b → get_or a k 0 ≡ get_or b k 0
word k e = ap (λ (l : List ℕ). get_or l k 0) e

group : (k n : ℕ) {a b : List ℕ} → a ≡ b → take n (drop k a) ≡ take n (drop k b)
group k n e = ap (λ (l : List ℕ). take n (drop k l)) e

same-origin : (f g : Origin) → origin_words f ≡ origin_words g → f ≡ g
same-origin f g e = λ i. record {
  first = word 0 e i;
  source_error = word 1 e i;
  tape_type = word 2 e i;
  tape = word 3 e i;
  number = word 4 e i;
  spacecraft = word 5 e i;
  station = word 6 e i;
  dra_tape = word 7 e i;
}

same-time : (f g : Time) → time_words f ≡ time_words g → f ≡ g
same-time f g e = λ i. record { day = word 0 e i; hour = word 1 e i; minute = word 2 e i; second = word 3 e i; micros = word 4 e i }

same-recorder : (f g : Recorder) → recorder_words f ≡ recorder_words g → f ≡ g
same-recorder f g e = λ i. record {
  input = word 0 e i;
  pps_absent = word 1 e i;
  clock_unsynced = word 2 e i;
  recorder_b = word 3 e i;
  micros_abnormal = word 4 e i;
  track_synced = word 5 e i;
}

same-reduction : (f g : Reduction) → reduction_words f ≡ reduction_words g → f ≡ g
same-reduction f g e = λ i. record {
  playback = word 0 e i;
  sampling = word 1 e i;
  bypass = word 2 e i;
  decimation = word 3 e i;
  pps_track = word 4 e i;
  time_track = word 5 e i;
  channel = word 6 e i;
  block = word 7 e i;
}

same-status : (f g : Status) → status_words f ≡ status_words g → f ≡ g
same-status f g e = λ i. record {
  day = word 0 e i;
  second = word 1 e i;
  overflow = word 2 e i;
  pps_unsynced = word 3 e i;
  bit_slip = word 4 e i;
  counter = word 5 e i;
}

same_count : (a b : Option ℕ) → count_words a ≡ count_words b → a ≡ b
same_count (Some n) (Some m) e = ap Some (word 0 e)
same_count (Some n) None e = cc
same_count None (Some m) e = cc
same_count None None e = refl

same_fields : Different fields_words
same_fields (Some f) (Some g) e =
    let origin = same-origin f.origin g.origin (group 0 8 e) in
    let time = same-time f.time g.time (group 8 5 e) in
    let recorder = same-recorder f.recorder g.recorder (group 13 6 e) in
    let reduction = same-reduction f.reduction g.reduction (group 19 8 e) in
    let status = same-status f.status g.status (group 27 6 e) in
    let count = same_count f.count g.count (ap (drop 33) e) in
    λ i. Some (record { origin = origin i; time = time i; recorder = recorder i; reduction = reduction i; status = status i; count = count i })
same_fields (Some f) None e = cc
same_fields None (Some g) e = cc
same_fields None None e = refl

pub same_read : DifferentReads
same_read = answers-differ fields_words same_fields

pub same_outcome : DifferentOutcomes
same_outcome (Ok u) (Ok v) e = refl
same_outcome (Ok u) (Err s) e = absurd (number-positive s (sym e))
same_outcome (Err r) (Ok v) e = absurd (number-positive r e)
same_outcome (Err r) (Err s) e = ap Err (number-injective r s e)
