-- The offsets and lengths of a record's parts, from the answer of read one. Assumes nothing.
use Prim.Native.Nat.{ℕ, ◌-◌}
use native.Mathlib.Omega.{arith}
use mathlib.Core.Bool.{Bool, true, false, cond}
use mathlib.Core.List.{List, []}
use mathlib.Core.Path.{◌≡◌, refl}
use borrow.Author.Tests.{eqb-true, not-false}
use lib.ListN.{length}
use Rattle.refusals.proofs.Judged.{none-at, none-hold}
use Rattle.octets.specs.Octets.{part}
use Rattle.octets.proofs.Laws.{length_part}
use Rattle.idr.specs.Words.{samples_at, samples_size, record_size}
use Rattle.idr.specs.Read.{read_rules, accepts, samples_start, samples_part}
use Rattle.std.specs.Prelude.{Result, Ok, Err}
use Rattle.sfdu.specs.declared.Fault.{Fault}
use Rattle.sfdu.specs.declared.Record.{Record}
use Rattle.sfdu.specs.Nesting.{secondary_value_at, secondary_length, data_value_at}
use Rattle.sfdu.specs.Read.{words_of, primary_words, read_one, secondary_start, secondary_part, data_start, data_part}
use Rattle.sfdu.proofs.Placed as Placed
use Rattle.sfdu.proofs.Accepted.{Found, record-found, refusal-found}
use Rattle.sfdu.proofs.Parts.{room, secondary-room, secondary-start, secondary-part, data-start, data-part, no-parts}
use Rattle.answers.specs.Numbers.{given, placed}
use Rattle.answers.specs.inner.Parts.{secondary_place, data_place, samples_place}

pub secondary-placed : (s : List ℕ) (found : Result Record Fault) → words_of found ≡ read_one s
    → given (secondary_place found) ≡ placed (secondary_start s) (secondary_part s)
secondary-placed s (Ok r) e =
    let f : Found s r.kind r.size (primary_words r.primary) = record-found s refl e in
    let long = length_part s secondary_value_at (secondary_length r.kind)
    (omega (arith, (Placed.placed r.kind).data-at, (secondary-room _ _ _ _ f).1)) in
    rw (secondary-start _ _ _ _ f, secondary-part _ _ _ _ f, long)
secondary-placed s (Err f) e = let nothing = no-parts s (refusal-found s {answer = Err f} {f = f} refl e) in rw (
  nothing.secondary-at,
  nothing.no-secondary,
)

pub data-placed : (s : List ℕ) (found : Result Record Fault) → words_of found ≡ read_one s → given (data_place found) ≡ placed (data_start s) (data_part s)
data-placed s (Ok r) e =
    let f : Found s r.kind r.size (primary_words r.primary) = record-found s refl e in
    let long = length_part s (data_value_at r.kind) (r.size - data_value_at r.kind) (omega (arith, (room _ _ _ _ f).0, (room _ _ _ _ f).1)) in
    rw (data-start _ _ _ _ f, data-part _ _ _ _ f, long)
data-placed s (Err f) e = let nothing = no-parts s (refusal-found s {answer = Err f} {f = f} refl e) in rw (nothing.data-at, nothing.no-data)

-- The offset of a medium band record's samples, and their length.
record-long : (s : List ℕ) → accepts s ≡ true → length s ≡ record_size
unfolding accepts
record-long s a = eqb-true _ _ (not-false _ (none-at (read_rules s) (none-hold (read_rules s) a) 0))

pub samples-placed : (s : List ℕ) → given (samples_place (length (samples_part s))) ≡ placed (samples_start s) (samples_part s)
unfolding samples_part samples_start
samples-placed s = by (accepts s) refl
  where
    by : (b : Bool) → accepts s ≡ b
        → given (samples_place (length (cond b (part s samples_at samples_size) []))) ≡ placed (cond b samples_at 0) (cond b
        (part s samples_at samples_size) [])
    by true a = rw (length_part s samples_at samples_size (omega (arith, record-long s a))) refl
    by false a = refl
