-- A call on a converted sheet answers as on the old sheet's book; and a new call refuses an old sheet. Assumes nothing.
use Prim.Native.Nat.{ℕ}
use native.Mathlib.Omega.{arith}
use mathlib.Core.Bool.{Bool, true, false, ◌&&◌, false≢true}
use mathlib.Core.List.{List, [], ◌∷◌}
use mathlib.Core.Path.{◌≡◌, refl, ap, ◌∙◌}
use lib.Dec.{eqb}
use lib.ListN.{length}
use borrow.Author.Tests.{ne_eqb}
use Rattle.laws.proofs.Bools.{and_split}
use Rattle.ledger_sheet.specs.Sheet.{sheet_size, right}
use Rattle.ledger_sheet.specs.Outcome.{Outcome}
use Rattle.ledger_layout.specs.Layout.{layout, book_of, call, on_sheet}
use Rattle.ledger_layout.proofs.Right.{reads-back}
use Rattle.ledger_layout.proofs.Sheets.{on-layout}
use Rattle.ledger_convert.specs.Old as Old
use Rattle.ledger_convert.specs.Convert.{old_book_of, convert_on}
use Rattle.ledger_convert.specs.Laws.{ConvertedAnswers, OldRefused}
use Rattle.ledger_convert.proofs.Read.{book-fine, long}

-- where the converter answers 0, the old sheet was right, and the new one is its book laid out
accepted : (old new t : List ℕ) → (0 ∷ [], t) ≡ convert_on old new → (Old.right old ≡ true) × (t ≡ layout (old_book_of old))
unfolding convert_on
accepted old new t e = by (eqb (length new) sheet_size && Old.right old) refl
  where
    by : (b : Bool) → (eqb (length new) sheet_size && Old.right old) ≡ b → (Old.right old ≡ true) × (t ≡ layout (old_book_of old))
    by true q = ((and_split (eqb (length new) sheet_size) (Old.right old) q).1, ap (λ (o : Outcome). o.1) (rw q at e))
    by false q =
        let d : ◌≡◌ {A = Outcome} (0 ∷ [], t) (20 ∷ [], new) = rw q at e in
        let f : ◌≡◌ {A = List ℕ} (0 ∷ []) (20 ∷ []) = ap (λ (o : Outcome). o.0) d in
        absurd (false≢true cc)

pub converted-answers : ConvertedAnswers
converted-answers old new t e =
    let a = accepted old new t e in
    let fine = book-fine old a.0 in
    record {
      same_book = ap book_of a.1 ∙ reads-back (old_book_of old) fine;
      same_calls = λ c. ap (on_sheet (call c)) a.1 ∙ on-layout (call c) (old_book_of old) fine;
    }

-- A new call refuses an old sheet with 20.
pub old-refused : OldRefused
unfolding on_sheet right
old-refused old r f = rw (ne_eqb (length old) sheet_size (λ e. omega (arith, long old r)))
