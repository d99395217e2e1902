-- The call with a number, and the entry with such a call. Assumes nothing.
use Prim.Native.Nat.{ℕ}
use mathlib.Core.Bool.{true, false, ◌&&◌, true≢false}
use mathlib.Core.Path.{◌≡◌, refl, sym, ap, ◌∙◌}
use native.Mathlib.Omega.{arith}
use lib.Dec.{eqb, leb}
use Rattle.std.specs.Prelude.{Result, Ok, Err, IsOk}
use Rattle.std.proofs.lemmas.Bool.Decides.{nat_tests}
use Rattle.refusals.specs.declared.Refusal.{Refusal}
use Rattle.ledger_replay.specs.declared.Call.{Call}
use Rattle.ledger_replay.specs.declared.Call.TheVariants.{Enrol, Open, Tick, Untick, Save, Drop, Strike}
use Rattle.ledger_replay.specs.declared.Line as Code
use Rattle.ledger_replay.specs.Trace.{Line, enrol_call, is_call, line_right}
use Rattle.ledger_replay.specs.inner.Numbered.{call_number, call_numbered, numbers_of, with_call, line_in}

-- A number that no call has.
no-call : (n : ℕ) (r : Refusal) → call_numbered n ≡ Err r → leb 1 n && leb n 7 ≡ false
no-call n r e = grind (arith, nat_tests)

-- The number of the call that has it.
of-number : (n : ℕ) (c : Call) → call_numbered n ≡ Ok c → call_number c ≡ n
of-number n Enrol e = grind (arith, nat_tests)
of-number n Open e = grind (arith, nat_tests)
of-number n Tick e = grind (arith, nat_tests)
of-number n Untick e = grind (arith, nat_tests)
of-number n Save e = grind (arith, nat_tests)
of-number n Drop e = grind (arith, nat_tests)
of-number n Strike e = grind (arith, nat_tests)

module _ (x : Line) where
  with_number : ℕ → Line
  with_number n = record { call = n; desk = x.desk; row = x.row; answer = x.answer; number = x.number; key = x.key }

  pub line-read : (y : Code.Line) → line_in x ≡ Ok y → numbers_of y ≡ x
  unfolding with_number
  line-read y = by (call_numbered x.call) refl
    where
      by : (o : Result Call Refusal) → call_numbered x.call ≡ o → with_call x o ≡ Ok y → numbers_of y ≡ x
      by (Ok c) e h =
          let same : record { call = c; desk = x.desk; row = x.row; answer = x.answer; number = x.number; key = x.key } ≡ y = cc in
          ap numbers_of (sym same) ∙ ap with_number (of-number x.call c e)
      by (Err r) e h = cc

  pub no-line : (r : Refusal) → line_in x ≡ Err r → line_right x ≡ false
  unfolding line_right is_call
  no-line r = by (call_numbered x.call) refl
    where
      by : (o : Result Call Refusal) → call_numbered x.call ≡ o → with_call x o ≡ Err r → line_right x ≡ false
      by (Ok c) e h = cc
      by (Err q) e h = rw (no-call x.call q e)

  -- A right entry is read.
  pub line-there : line_right x ≡ true → IsOk (line_in x)
  line-there r = by (line_in x) refl
    where
      by : (o : Result Code.Line Refusal) → line_in x ≡ o → IsOk o
      by (Ok y) e = refl
      by (Err q) e = absurd (true≢false (sym r ∙ no-line q e))

-- Only an enrolment has the first number.
pub no-enrolment : (c : Call) → (c ≡ Enrol → ⊥) → eqb (call_number c) enrol_call ≡ false
no-enrolment Enrol h = absurd (h refl)
no-enrolment Open h = refl
no-enrolment Tick h = refl
no-enrolment Untick h = refl
no-enrolment Save h = refl
no-enrolment Drop h = refl
no-enrolment Strike h = refl
