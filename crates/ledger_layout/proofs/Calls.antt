-- The outcome of a call on a slice of bytes. Assumes nothing.
use Prim.Native.Nat.{ℕ}
use mathlib.Core.Bool.{true}
use mathlib.Core.List.{List, [], ◌∷◌}
use mathlib.Core.Logic.{◌≢◌}
use mathlib.Core.Path.{◌≡◌, sym, ap, ◌∙◌}
use Rattle.refusals.specs.Judge.{verdict}
use Rattle.octets.specs.Octets.{AreBytes}
use Rattle.octets.proofs.Laws.{are-bytes}
use Rattle.ledger_model.specs.Step.{Call, answer_words, refusals, effect, after_refusal, step}
use Rattle.ledger_sheet.specs.Sheet.{right}
use Rattle.ledger_layout.specs.Layout.{layout, book_of, call, on_sheet}
use Rattle.ledger_layout.specs.Calls.{CallOnSheet, StaysRight}
use Rattle.ledger_layout.proofs.Read.{read-law}
use Rattle.ledger_layout.proofs.Rules.{not_right, refused-right}
use Rattle.ledger_layout.proofs.Sheets.{stays-right}

stays : (c : Call) (s : List ℕ) → AreBytes s → right s ≡ true → (n : ℕ) → n ≡ verdict (refusals c (book_of s)) → n ≢ 0
    → after_refusal n c (book_of s) ≡ book_of s → on_sheet (call c) s ≡ (n ∷ [], s)
stays c s bytes r n e p same =
    sym (refused-right c s r n e p) ∙ ap (λ (t : List ℕ). (n ∷ [], t)) (ap layout same ∙ read-law s (are-bytes s bytes) r)

accepts : (c : Call) (s : List ℕ) → right s ≡ true → verdict (refusals c (book_of s)) ≡ 0
    → on_sheet (call c) s ≡ (answer_words (effect c (book_of s)).answer, layout (effect c (book_of s)).book)
unfolding on_sheet step
accepts c s r e = rw (r, e)

pub call-on-sheet : CallOnSheet
call-on-sheet =
    record {
      no-sheet = λ c s r. sym (not_right (call c) s r);
      refused = λ c s r n e p. sym (refused-right c s r n e p);
      refused_stays = stays;
      accepted = accepts;
    }

pub every-stays-right : StaysRight
every-stays-right c s bytes r = stays-right c s (are-bytes s bytes) r
