-- The missing list by the rules that its code tests. Assumes nothing.
use Prim.Native.Nat.{ℕ}
use mathlib.Core.Bool.{true, false}
use mathlib.Core.List.{List, [], ◌∷◌}
use mathlib.Core.Path.{◌≡◌}
use lib.Dec.{ltb}
use lib.ListN.{length}
use Rattle.refusals.specs.declared.Refusal.{Refusal}
use Rattle.refusals.specs.Table.{number_of}
use Rattle.refusals.specs.Judge.{Rule, ◌when◌, judge, verdict}
use Rattle.refusals.proofs.Laws.{number-positive}
use Rattle.ledger_model.specs.Book.{place, is_free}
use Rattle.ledger_model.specs.Step.{Ask, RowReport, refusals}
use Rattle.ledger_sheet.specs.Sheet.{right}
use Rattle.ledger_layout.specs.Layout.{book_of}
use Rattle.ledger_layout.specs.inner.Rules.{rules_on}
use Rattle.ledger_layout.proofs.Rules.{refused-first, given-judge}
use Rattle.ledger_missing.specs.Missing.{missing_of, missing_rules, missing_on}
use Rattle.ledger_missing.specs.inner.Gaps.{listed}

module _ (s : List ℕ) (i : ℕ) (list : List ℕ) where
  -- its rules begin with those of a row report
  pub missing-refused : (q : Refusal) → number_of q ≡ verdict (rules_on (Ask (RowReport i)) s) → (number_of q ∷ [], list) ≡ missing_on i s list
  unfolding refusals missing_on
  missing-refused q e =
      let short : List (Rule ℕ) = (60 when ltb (length list) (length (missing_of s i))) ∷ [] in
      let number = refused-first (rules_on (Ask (RowReport i)) s) short e (number-positive q) in
      given-judge (λ number. (number ∷ [], list)) (missing_rules i s list) _ number (number-positive q)

  pub missing-accepted : right s ≡ true → is_free (place (book_of s) i) ≡ false → listed (missing_of s i) list ≡ missing_on i s list
  unfolding judge missing_on listed
  missing-accepted r f = rw (r, f)
