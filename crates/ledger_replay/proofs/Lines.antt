-- One entry as bytes: it is 16 bytes, well-formed, and reads back. Assumes nothing.
use Prim.Native.Nat.{ℕ, ◌+◌, ◌^◌, ◌<◌}
use native.Mathlib.Nat.{add-zero}
use native.Mathlib.Omega.{arith}
use mathlib.Core.Bool.{Bool, true, false, cond, ◌||◌, false≢true, or-true}
use mathlib.Core.List.{List, [], ◌∷◌, ◌++◌}
use mathlib.Core.Path.{◌≡◌, refl, ap, ◌∙◌}
use lib.Dec.{eqb, lit<}
use lib.ListN.{length, length-append}
use borrow.Author.Tests.{ltb-true, not-true}
use Rattle.laws.proofs.Bools.{and_split}
use Rattle.octets.specs.Octets.{number_at, bytes_of, part}
use Rattle.octets.proofs.Laws.{length-bytes_of, part_at}
use Rattle.octets.proofs.Parts.{number-first, number-second, number-bytes}
use Rattle.ledger_model.specs.Step.{Enrol, Ask, Open, Mark, Save, Drop, Strike, Answer, gave, done, at_row, refused, Entry, ◌⇒◌}
use Rattle.ledger_layout.proofs.Parts.{number-within}
use Rattle.ledger_replay.specs.Trace.{Line}
use Rattle.ledger_replay.specs.Trace.{number_size, record_at, key_at, key_size, entry_size, line_at, is_call, desk_right}
use Rattle.ledger_replay.specs.Trace.{row_right, number_right, key_right, line_right, call_in, answer_in, entry_in}
use Rattle.ledger_replay.specs.Record.{is_kept, answer_number, answered_row, mark_call, line_of, line_bytes}
use Rattle.ledger_replay.specs.Laws.{is_refusal, row_fits, nothing_fits, answer_fits, fits}

-- ---- the bytes of a line, and the line in them

pub length-line : (x : Line) → length (line_bytes x) ≡ entry_size
unfolding line_bytes
length-line x = simp (length-append, length-bytes_of)

-- The numbers of a line that its bytes can hold.
pub record Held (x : Line) : Type 0 where
  pub call-byte : x.call < 256
  pub desk-byte : x.desk < 256
  pub row-byte : x.row < 256
  pub answer-byte : x.answer < 256
  pub number_fits : x.number < 256 ^ number_size
  pub key_fits : x.key < 256 ^ key_size

pub line-back : (x : Line) → Held x → line_at (line_bytes x) 0 ≡ x
unfolding line_at line_bytes
line-back x h =
    let first = x.call ∷ x.desk ∷ x.row ∷ x.answer ∷ [] in
    let number = bytes_of number_size x.number in
    let key = bytes_of key_size x.key in
    let ln = length-bytes_of number_size x.number in
    let upto : length (first ++ number) ≡ key_at = rw length-append (omega arith) in
    let n : number_at (first ++ number ++ key) record_at number_size ≡ x.number =
    number-first (first ++ number) key record_at number_size (omega arith)
    ∙ number-second first number record_at 0 number_size refl
    ∙ number-bytes number_size x.number h.number_fits in
    let k : number_at (first ++ number ++ key) key_at key_size ≡ x.key =
    number-second (first ++ number) key key_at 0 key_size (omega arith) ∙ number-bytes key_size x.key h.key_fits in
    rw (n, k)

-- A line is read from its 16 bytes alone.
pub line-within : (t : List ℕ) (a : ℕ) → line_at t a ≡ line_at (part t a entry_size) 0
unfolding line_at
line-within t a =
    rw (
      part_at t a entry_size 0 (omega arith),
      part_at t a entry_size 1 (omega arith),
      part_at t a entry_size 2 (omega arith),
      part_at t a entry_size 3 (omega arith),
      number-within t a entry_size record_at number_size (a + record_at) refl (omega arith),
      number-within t a entry_size key_at key_size (a + key_at) refl (omega arith),
      add-zero,
    )

-- ---- an entry that fits

-- What an entry's line is good for.
pub record Good (e : Entry) : Type 0 where
  pub held : Held (line_of e)
  pub right : line_right (line_of e) ≡ true
  pub back : entry_in (line_of e) ≡ e

-- The answer of a call that gives nothing, and of an enrolment.
record Nothing (a : Answer) : Type 0 where
  byte : answer_number a < 256
  back : cond (eqb (answer_number a) 0) done (refused (answer_number a)) ≡ a

refusal-parts : (n : ℕ) → is_refusal n ≡ true → (eqb n 0 ≡ false) × (n < 256)
refusal-parts n h = let p = and_split _ _ h in (not-true (eqb n 0) p.0, ltb-true n 256 p.1)

nothing : (a : Answer) → nothing_fits a ≡ true → Nothing a
unfolding nothing_fits
nothing (gave []) h = record { byte = lit< tt; back = refl }
nothing (gave (r ∷ words)) h = absurd (false≢true h)
nothing (refused n) h = let p = refusal-parts n h in record { byte = p.1; back = rw p.0 }

record Rowed (a : Answer) : Type 0 where
  byte : answer_number a < 256
  row-byte : answered_row a < 256
  row_fine : eqb (answered_row a) 0 || false || false || eqb (answer_number a) 0 ≡ true
  back : cond (eqb (answer_number a) 0) (at_row (answered_row a)) (refused (answer_number a)) ≡ a

rowed : (a : Answer) → row_fits a ≡ true → Rowed a
unfolding row_fits
rowed (gave []) h = absurd (false≢true h)
rowed (gave (r ∷ [])) h = record { byte = lit< tt; row-byte = ltb-true r 256 h; row_fine = or-true (eqb r 0 || false || false); back = refl }
rowed (gave (r ∷ q ∷ words)) h = absurd (false≢true h)
rowed (refused n) h = let p = refusal-parts n h in record { byte = p.1; row-byte = lit< tt; row_fine = refl; back = rw p.0 }

-- A tick and an untick differ in their call's number alone.
mark-byte : (flag : Bool) → mark_call flag < 256
mark-byte true = lit< tt
mark-byte false = lit< tt

mark-right : (flag : Bool) (d n : ℕ) (a : Answer) → line_right (line_of (Mark flag d n ⇒ a)) ≡ true
unfolding line_of line_right is_call desk_right row_right number_right key_right
mark-right true d n a = rw (or-true (eqb d 0), or-true (eqb n 0 || false))
mark-right false d n a = rw (or-true (eqb d 0), or-true (eqb n 0 || false || false))

mark-back : (flag : Bool) (d n : ℕ) (a : Answer) → cond (eqb (answer_number a) 0) done (refused (answer_number a)) ≡ a
    → entry_in (line_of (Mark flag d n ⇒ a)) ≡ Mark flag d n ⇒ a
unfolding line_of call_in answer_in
mark-back true d n a h = ap (λ x. Mark true d n ⇒ x) h
mark-back false d n a h = ap (λ x. Mark false d n ⇒ x) h

pub good : (e : Entry) → fits e ≡ true → Good e
unfolding is_kept answer_fits line_of line_right is_call desk_right row_right number_right key_right call_in answer_in
good (Enrol key first ⇒ a) h =
    let p = and_split _ _ h in
    let k = and_split _ _ p.0 in
    let r = rowed a p.1 in
    record {
      held = record {
        call-byte = lit< tt;
        desk-byte = lit< tt;
        row-byte = r.row-byte;
        answer-byte = r.byte;
        number_fits = ltb-true _ _ k.1;
        key_fits = ltb-true _ _ k.0;
      };
      right = rw (r.row_fine, or-true (eqb first 0), or-true (eqb key 0));
      back = ap (λ x. Enrol key first ⇒ x) r.back;
    }
good (Ask q ⇒ a) h = absurd (false≢true h)
good (Open d r ⇒ a) h =
    let p = and_split _ _ h in
    let k = and_split _ _ p.0 in
    let t = nothing a p.1 in
    record {
      held = record {
        call-byte = lit< tt;
        desk-byte = ltb-true _ _ k.0;
        row-byte = ltb-true _ _ k.1;
        answer-byte = t.byte;
        number_fits = lit< tt;
        key_fits = lit< tt;
      };
      right = rw (or-true (eqb d 0), or-true (eqb r 0));
      back = ap (λ x. Open d r ⇒ x) t.back;
    }
good (Mark flag d n ⇒ a) h =
    let p = and_split _ _ h in
    let k = and_split _ _ p.0 in
    let t = nothing a p.1 in
    record {
      held = record {
        call-byte = mark-byte flag;
        desk-byte = ltb-true _ _ k.0;
        row-byte = lit< tt;
        answer-byte = t.byte;
        number_fits = ltb-true _ _ k.1;
        key_fits = lit< tt;
      };
      right = mark-right flag d n a;
      back = mark-back flag d n a t.back;
    }
good (Save d ⇒ a) h =
    let p = and_split _ _ h in
    let t = nothing a p.1 in
    record {
      held = record {
        call-byte = lit< tt;
        desk-byte = ltb-true _ _ p.0;
        row-byte = lit< tt;
        answer-byte = t.byte;
        number_fits = lit< tt;
        key_fits = lit< tt;
      };
      right = rw (or-true (eqb d 0));
      back = ap (λ x. Save d ⇒ x) t.back;
    }
good (Drop d ⇒ a) h =
    let p = and_split _ _ h in
    let t = nothing a p.1 in
    record {
      held = record {
        call-byte = lit< tt;
        desk-byte = ltb-true _ _ p.0;
        row-byte = lit< tt;
        answer-byte = t.byte;
        number_fits = lit< tt;
        key_fits = lit< tt;
      };
      right = rw (or-true (eqb d 0));
      back = ap (λ x. Drop d ⇒ x) t.back;
    }
good (Strike r ⇒ a) h =
    let p = and_split _ _ h in
    let t = nothing a p.1 in
    record {
      held = record {
        call-byte = lit< tt;
        desk-byte = lit< tt;
        row-byte = ltb-true _ _ p.0;
        answer-byte = t.byte;
        number_fits = lit< tt;
        key_fits = lit< tt;
      };
      right = rw (or-true (eqb r 0 || false));
      back = ap (λ x. Strike r ⇒ x) t.back;
    }
