-- A call on a right sheet is the layout of the model's call on its book; on any other slice it is 20. One law for all calls, and one for a fresh sheet.
-- Assumes nothing.
use Prim.Native.Nat.{ℕ, ◌+◌, ◌*◌}
use mathlib.Core.Bool.{Bool, true, false}
use mathlib.Core.List.{List, ◌++◌, append_assoc}
use mathlib.Core.Path.{◌≡◌, refl, sym}
use lib.ListN.{replicate, replicate-append-replicate}
use Rattle.ledger_model.specs.Book.{free, closed, Book, fresh}
use Rattle.ledger_model.specs.Step.{Question, Call, Ask, Reply, step}
use Rattle.ledger_model.specs.WellFormed.{WellFormed}
use Rattle.ledger_model.proofs.Outcome.{refusal, asking, outcome}
use Rattle.ledger_model.proofs.Outcome as Model
use Rattle.ledger_model.proofs.WellFormed.{well-formed}
use Rattle.octets.proofs.Laws.{Bytes}
use Rattle.ledger_sheet.specs.Sheet.{row_size, row_count, desk_size, desk_count, right}
use Rattle.ledger_layout.specs.Bytes.{header_bytes, fresh_sheet}
use Rattle.ledger_layout.specs.Layout.{place_bytes, desk_bytes, count_used, layout, book_of, call, laid_out, on_sheet}
use Rattle.octets.specs.Lists.{laid}
use Rattle.octets.proofs.Lists.{laid-zeros}
use Rattle.ledger_layout.proofs.Right.{reads-back, layout-right}
use Rattle.ledger_layout.proofs.Read.{read-law, book-fine}

-- a question leaves the book, and so the sheet, as it was
pub asking-stays : (q : Question) (b : Book) → (step (Ask q) b).book ≡ b
asking-stays q b = at (outcome (Ask q) b)
  where
    at : {t : Reply} → Model.Outcome b (Ask q) t → t.book ≡ b
    at (refusal number m) = refl
    at (asking words) = refl

pub question-stays : (q : Question) (s : List ℕ) → Bytes s → (on_sheet (call (Ask q)) s).1 ≡ s
unfolding on_sheet
question-stays q s bytes = by (right s) refl
  where
    by : (t : Bool) → right s ≡ t → (on_sheet (call (Ask q)) s).1 ≡ s
    by true e = rw (e, asking-stays q (book_of s)) (read-law s bytes e)
    by false e = rw e

-- ---- a fresh sheet

two-zeros : (h : List ℕ) {x y : List ℕ} (m n : ℕ) → x ≡ replicate m 0 → y ≡ replicate n 0 → h ++ x ++ y ≡ h ++ replicate (m + n) 0
two-zeros h m n ex ey = rw (ex, ey, append_assoc, replicate-append-replicate)

fresh-places : laid place_bytes fresh.places ≡ replicate (row_size * row_count) 0
unfolding place_bytes
fresh-places = laid-zeros row_size place_bytes free refl row_count

fresh-desks : laid (desk_bytes fresh.places) fresh.desks ≡ replicate (desk_size * desk_count) 0
unfolding desk_bytes
fresh-desks = laid-zeros desk_size (desk_bytes fresh.places) closed refl desk_count

pub fresh-layout : fresh_sheet ≡ layout fresh
unfolding fresh_sheet layout count_used
fresh-layout = sym (two-zeros (header_bytes 0) (row_size * row_count) (desk_size * desk_count) fresh-places fresh-desks)

-- ---- a layout, and a right sheet

-- a call on the layout of a well-formed book
pub on-layout : (f : Book → List ℕ × Book) (b : Book) → WellFormed b → on_sheet f (layout b) ≡ laid_out (f b)
unfolding on_sheet
on-layout f b ok = rw (layout-right b ok, reads-back b ok)

-- a call leaves a right sheet right
pub stays-right : (c : Call) (s : List ℕ) → Bytes s → right s ≡ true → right (on_sheet (call c) s).1 ≡ true
unfolding on_sheet
stays-right c s bytes e =
    rw e (layout-right (step c (book_of s)).book (well-formed (book_of s) (book-fine s bytes e) (outcome c (book_of s))))
