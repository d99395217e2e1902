-- The stream key of a record, from what a check of its fields finds. Assumes nothing.
use Prim.Native.Nat.{ℕ, ◌+◌, ◌<◌, ◌^◌}
use native.Mathlib.Omega.{arith}
use mathlib.Core.Bool.{true, false}
use mathlib.Core.List.{List}
use mathlib.Core.Path.{◌≡◌, ◌∙◌}
use Rattle.refusals.proofs.Judged.{judge-append}
use Rattle.octets.proofs.Laws.{Bytes}
use Rattle.sfdu.specs.declared.Kind.{Kind}
use Rattle.sfdu.specs.declared.Kind.TheVariants.{Rsr}
use Rattle.std.specs.Prelude.{Some, None, Ok, Err}
use Rattle.refusals.specs.declared.Refusal.TheVariants.{FieldRange}
use Rattle.refusals.specs.Judge.{judge, none_applies}
use Rattle.sfdu.specs.declared.Fault.{Fault}
use Rattle.sfdu_headers.specs.inner.Dated.{dated}
use Rattle.sfdu_headers.specs.inner.Fault.{fault}
use Rattle.sfdu.specs.Nesting.{secondary_at}
use Rattle.sfdu.specs.inner.Checked.{checked}
use Rattle.sfdu.proofs.Labels.{all_right, one-wrong}
use Rattle.sfdu_headers.specs.Fields.{spacecraft}
use Rattle.sfdu_headers.specs.Ranges.{field_rules, byte_rules, date_rules}
use Rattle.sfdu_headers.specs.Headers.{key_of}
use Rattle.sfdu_headers.specs.inner.Streams.{stream_key_in}

module _ (k : Kind) (s : List ℕ) where
  pub key-known : none_applies (field_rules k s) ≡ true → stream_key_in k s ≡ Some (key_of k s)
  unfolding stream_key_in
  key-known e = rw e

  pub no-key : none_applies (field_rules k s) ≡ false → stream_key_in k s ≡ None
  unfolding stream_key_in
  no-key e = rw e

  pub key_right_lem : (u : Unit {0}) → fault k s ≡ Ok u → stream_key_in k s ≡ Some (key_of k s)
  unfolding fault
  key_right_lem u e = key-known (all_right (λ given. false) FieldRange tt (field_rules k s) true u e).1

  pub key-wrong : (f : Fault) → fault k s ≡ Err f → stream_key_in k s ≡ None
  unfolding fault
  key-wrong f e = no-key (one-wrong (λ given. false) FieldRange tt (field_rules k s) true f e).1

-- An RSR record's bytes are judged first, then its date.
module _ (s : List ℕ) where
  in-turn : none_applies (field_rules Rsr s) ≡ judge (λ given. false) (byte_rules s) (none_applies (date_rules s))
  in-turn = judge-append (λ given. false) (byte_rules s) (date_rules s) true

  pub bytes-wrong : (f : Fault) → checked FieldRange (byte_rules s) ≡ Err f → stream_key_in Rsr s ≡ None
  bytes-wrong f e = no-key Rsr s (in-turn ∙ (one-wrong (λ given. false) FieldRange tt (byte_rules s) _ f e).1)

  pub date-wrong : (u : Unit {0}) (f : Fault) → checked FieldRange (byte_rules s) ≡ Ok u → dated s ≡ Err f → stream_key_in Rsr s ≡ None
  unfolding dated
  date-wrong u f e d =
      no-key Rsr s (in-turn ∙ (all_right (λ given. false) FieldRange tt (byte_rules s) _ u e).1
      ∙ (one-wrong (λ given. false) FieldRange _ (date_rules s) true f d).1)

  pub date-right : (u : Unit {0}) (n : ℕ) → checked FieldRange (byte_rules s) ≡ Ok u → dated s ≡ Ok n → stream_key_in Rsr s ≡ Some (key_of Rsr s)
  unfolding dated
  date-right u n e d =
      key-known Rsr s (in-turn ∙ (all_right (λ given. false) FieldRange tt (byte_rules s) _ u e).1
      ∙ (all_right (λ given. false) FieldRange _ (date_rules s) true n d).1)

pub spacecraft-low : (s : List ℕ) → Bytes s → spacecraft s < 2 ^ 10
spacecraft-low s bytes = omega (arith, (bytes (secondary_at + 6)).fits, (bytes (secondary_at + 7)).fits)
