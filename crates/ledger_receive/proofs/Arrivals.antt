-- What the stream key of a whole record says of what it brings. Assumes nothing.
use Prim.Native.Nat.{ℕ, ◌≤◌}
use native.Mathlib.Omega.{arith}
use mathlib.Core.Path.{◌≡◌, refl, sym, ap, ◌∙◌}
use mathlib.Core.Bool.{Bool, true, false, false≢true}
use mathlib.Core.List.{List}
use lib.ListN.{length}
use Rattle.refusals.specs.Judge.{none_applies}
use Rattle.keys.specs.Key.{valid_key}
use Rattle.octets.proofs.Laws.{Bytes}
use Rattle.std.specs.Prelude.{Some, None, Result, Ok, Err, IsOk}
use Rattle.sfdu.specs.declared.Kind.{Kind}
use Rattle.sfdu.specs.declared.kinds.UnknownKind.{UnknownKind}
use Rattle.sfdu.specs.inner.Numbered.{IsNumbered}
use Rattle.sfdu.specs.declared.Kind.TheVariants.{Telemetry, Rsr}
use Rattle.sfdu.specs.Nesting.{kind_number, data_value_at}
use Rattle.sfdu.specs.Read.{kind_of, read_rules, accepts}
use Rattle.sfdu.proofs.Accepted.{Accepted, accepted}
use Rattle.sfdu.proofs.Placed.{placed}
use Rattle.sfdu_headers.specs.Fields.{record_number}
use Rattle.sfdu_headers.specs.Ranges.{field_rules}
use Rattle.sfdu_headers.specs.Headers.{key_of}
use Rattle.sfdu_headers.specs.inner.Streams.{stream_key_in}
use Rattle.sfdu_headers.proofs.Keys.{every-key}
use Rattle.ledger_receive.specs.Visits.{Arrival, unread, arrived}
use Rattle.ledger_receive.specs.Receive.{arrival_in}

-- ---- the kind with a number

-- A kind's number is some kind's, and no other's.
pub is-kind : (found : Result Kind UnknownKind) (k : Kind) → IsNumbered (kind_number k) found → IsOk found
is-kind (Ok found) k h = refl
is-kind (Err e) k h = absurd (h.1 k refl)

pub same-kind : (found k : Kind) → IsNumbered (kind_number k) (Ok found) → found ≡ k
same-kind Telemetry Telemetry h = refl
same-kind Telemetry Rsr h = absurd (omega arith)
same-kind Rsr Telemetry h = absurd (omega arith)
same-kind Rsr Rsr h = refl

-- ---- a whole record

-- Its header is whole.
pub header-room : (s : List ℕ) → none_applies (read_rules s) ≡ true → data_value_at (kind_of s) ≤ length s
unfolding accepts
header-room s w =
    let a : Accepted s = accepted s w in
    let p = placed (kind_of s) in
    omega arith

module _ (s : List ℕ) where
  arrival-fine : none_applies (field_rules (kind_of s) s) ≡ true → arrival_in s ≡ arrived (key_of (kind_of s) s) (record_number (kind_of s) s)
  unfolding arrival_in
  arrival-fine h = rw h

  arrival-wrong : none_applies (field_rules (kind_of s) s) ≡ false → arrival_in s ≡ unread
  unfolding arrival_in
  arrival-wrong h = rw h

  key-fine : none_applies (field_rules (kind_of s) s) ≡ true → stream_key_in (kind_of s) s ≡ Some (key_of (kind_of s) s)
  unfolding stream_key_in
  key-fine h = rw h

  key-wrong : none_applies (field_rules (kind_of s) s) ≡ false → stream_key_in (kind_of s) s ≡ None
  unfolding stream_key_in
  key-wrong h = rw h

  pub key-arrives : (key n : ℕ) → n ≡ record_number (kind_of s) s → stream_key_in (kind_of s) s ≡ Some key → arrived key n ≡ arrival_in s
  key-arrives key n m e = by (none_applies (field_rules (kind_of s) s)) refl
    where
      by : (f : Bool) → none_applies (field_rules (kind_of s) s) ≡ f → arrived key n ≡ arrival_in s
      by true h = cc (key-fine h, arrival-fine h)
      by false h = cc (key-wrong h)

  pub none-arrives : stream_key_in (kind_of s) s ≡ None → unread ≡ arrival_in s
  none-arrives e = by (none_applies (field_rules (kind_of s) s)) refl
    where
      by : (f : Bool) → none_applies (field_rules (kind_of s) s) ≡ f → unread ≡ arrival_in s
      by true h = cc (key-fine h)
      by false h = sym (arrival-wrong h)

-- ---- the key that a record brings is valid

key_in : Arrival → ℕ
key_in unread = 0
key_in (arrived key n) = key

is_arrived : Arrival → Bool
is_arrived unread = false
is_arrived (arrived key n) = true

pub arrived-valid : (s : List ℕ) → Bytes s → (key n : ℕ) → arrival_in s ≡ arrived key n → valid_key key ≡ true
unfolding key_in is_arrived
arrived-valid s bytes key n e = by (none_applies (field_rules (kind_of s) s)) refl
  where
    by : (f : Bool) → none_applies (field_rules (kind_of s) s) ≡ f → valid_key key ≡ true
    by true h =
        let k : key_of (kind_of s) s ≡ key = ap key_in (sym (arrival-fine s h) ∙ e) in
        rw (← k) (every-key (kind_of s) s (λ i. (bytes i).fits)).valid
    by false h = let z : false ≡ true = ap is_arrived (sym (arrival-wrong s h) ∙ e) in absurd (false≢true z)
