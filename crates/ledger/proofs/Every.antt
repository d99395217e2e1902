-- Every list of calls has a chain of calls that keep their contracts. Assumes nothing.
use Prim.Native.Nat.{ℕ, suc}
use mathlib.Core.Bool.{true, false, not, true≢false}
use mathlib.Core.List.{List, [], ◌∷◌}
use mathlib.Core.Option.{Option, none, some}
use mathlib.Core.Path.{◌≡◌, refl, sym, ap, subst, ◌∙◌}
use borrow.Author.Tests.{ne_eqb}
use Rattle.ledger_model.proofs.Claim.{log-calls}
use Rattle.refusals.specs.declared.Refusal.{Refusal}
use Rattle.refusals.specs.declared.Refusal.TheVariants as Why
use Rattle.refusals.specs.Table.{number_of}
use Rattle.refusals.proofs.Laws.{number-positive}
use Rattle.refusals.proofs.Judged as Rules
use Rattle.ledger_model.specs.Positions.{Positions, same, size, missing, least, position_number}
use Rattle.ledger_model.specs.Book.{Place, free, row, Desk, closed, working, Book, fresh, place, desk, is_free, ticks_of}
use Rattle.ledger_model.specs.Counts.{first_gap_from, place_stream, desk_state}
use Rattle.ledger_model.specs.Step.{Find, RowReport, FirstGap, RowStream, DeskState, Unsaved, Question}
use Rattle.ledger_model.specs.Step.{Call, Enrol, Ask, Open, Mark, Save, Drop, Strike}
use Rattle.ledger_model.specs.Step.{Answer, gave, done, at_row, refused, answer_words, reply, refusals, asked, effect, after_refusal, step}
use Rattle.ledger_model.specs.Step.{run}
use Rattle.ledger_model.specs.Chain.{Chain, stop, next}
use Rattle.ledger_model.specs.WellFormed.{WellFormed}
use Rattle.ledger_model.proofs.Counts.{least-none}
use Rattle.ledger_model.proofs.Outcome.{outcome}
use Rattle.ledger_model.proofs.WellFormed.{well-formed, fresh-well-formed}
use Rattle.ledger_sheet.specs.Words as Words
use Rattle.std.specs.Prelude.{None, Some, Ok, Err}
use Rattle.ledger_layout.specs.Layout.{layout, call, on_sheet}
use Rattle.ledger_layout.specs.Demand3.{answer_of, row_answer_of, report_answer_of, gap_answer_of, stream_answer_of, desk_answer_of, unsaved_answer_of}
use Rattle.ledger_layout.proofs.Sheets.{fresh-layout, on-layout, asking-stays}
use Rattle.ledger.specs.Demand3.{Promised, enrolled, found, reported, gapped, row_told, desk_told, unsaved_told, opened, ticked, unticked, saved, dropped}
use Rattle.ledger.specs.Demand3.{struck}
use Rattle.ledger.specs.Every.{EveryListOfCalls}
use Rattle.ledger.proofs.Demand3.{made-fresh}

-- ---- a call is accepted, or refused with a number of the table

Tabled : ℕ → Type 0
Tabled n = (q : Refusal) × (number_of q ≡ n)

all-tabled : (c : Call) (b : Book) → Rules.AllGive Tabled (refusals c b)
unfolding refusals Tabled
all-tabled (Enrol key first) b =
    ((Why.BadKey, refl), ((Why.FirstNumber, refl), ((Why.AlreadyEnrolled, refl), ((Why.LedgerFull, refl), tt))))
all-tabled (Ask (Find key)) b = ((Why.BadKey, refl), ((Why.NoRow, refl), tt))
all-tabled (Ask (RowReport r)) b = ((Why.NoRow, refl), tt)
all-tabled (Ask FirstGap) b = tt
all-tabled (Ask (RowStream r)) b = ((Why.NoRow, refl), tt)
all-tabled (Ask (DeskState d)) b = ((Why.NoDesk, refl), tt)
all-tabled (Ask (Unsaved d)) b = ((Why.NoDesk, refl), ((Why.DeskClosed, refl), tt))
all-tabled (Open d r) b = ((Why.NoDesk, refl), ((Why.NoRow, refl), ((Why.DeskOpen, refl), tt)))
all-tabled (Mark true d n) b = ((Why.NoDesk, refl), ((Why.DeskClosed, refl), ((Why.OutsideRow, refl), ((Why.AlreadyTicked, refl), tt))))
all-tabled (Mark false d n) b = ((Why.NoDesk, refl), ((Why.DeskClosed, refl), ((Why.OutsideRow, refl), ((Why.NotTicked, refl), tt))))
all-tabled (Save d) b = ((Why.NoDesk, refl), ((Why.DeskClosed, refl), ((Why.Stale, refl), tt)))
all-tabled (Drop d) b = ((Why.NoDesk, refl), ((Why.DeskClosed, refl), tt))
all-tabled (Strike r) b = ((Why.NoRow, refl), ((Why.RowOpen, refl), tt))

data Case (c : Call) (b : Book) : Type 0 where
  accepts : Rules.NoneHolds (refusals c b) → step c b ≡ effect c b → Case c b
  refuses : (q : Refusal) → step c b ≡ reply (refused (number_of q)) (after_refusal (number_of q) c b) → Case c b

case : (c : Call) (b : Book) → Case c b
unfolding step Tabled
case c b = by (Rules.outcome (refusals c b))
  where
    by : Rules.Outcome (refusals c b) → Case c b
    by (Rules.none n) = accepts n (rw (Rules.none-judge (λ (g : ℕ). g) (refusals c b) 0 n))
    by (Rules.first g f) =
        let q = Rules.first_gives Tabled (all-tabled c b) f in
        let is = Rules.first-judge (λ (g : ℕ). g) 0 f ∙ sym q.1 in
        refuses q.0 (rw (is, ne_eqb (number_of q.0) 0 (number-positive q.0)))

-- ---- the answer's enum

-- Some value of the type R stands for the answer a.
record Told {R : Type 0} (of : R → Answer) (words : R → List ℕ) (a : Answer) : Type 0 where
  value : R
  stands : of value ≡ a
  says : words value ≡ answer_words a

plain : (c : Call) (b : Book) → (effect c b).answer ≡ done → Told answer_of Words.answer_words (step c b).answer
plain c b e = by (case c b)
  where
    by : Case c b → Told answer_of Words.answer_words (step c b).answer
    by (accepts n s) = rw (s, e) (record { value = Ok tt; stands = refl; says = refl })
    by (refuses q s) = rw s (record { value = Err q; stands = refl; says = refl })

at-row : (c : Call) (b : Book) (r : ℕ) → (effect c b).answer ≡ at_row r → Told row_answer_of Words.row_words (step c b).answer
at-row c b r e = by (case c b)
  where
    by : Case c b → Told row_answer_of Words.row_words (step c b).answer
    by (accepts n s) = rw (s, e) (record { value = Ok r; stands = refl; says = refl })
    by (refuses q s) = rw s (record { value = Err q; stands = refl; says = refl })

report-told : (key first : ℕ) (ticks : Positions) (o : Option ℕ) → least (missing ticks) ≡ o
    → Told report_answer_of Words.report_answer_words (gave (asked (RowReport 0) (record { places = row key first ticks ∷ []; desks = [] })))
unfolding asked
report-told key first ticks none e =
    rw (e, least-none (missing ticks) e) (record { value = Ok (record { ticked = size ticks; gaps = None }); stands = refl; says = refl })
report-told key first ticks (some i) e =
    rw e (record { value = Ok (record { ticked = size ticks; gaps = Some (record { missing = size (missing ticks); lowest = position_number key first i }) }); stands = refl; says = refl })

report : (r : ℕ) (b : Book) → Told report_answer_of Words.report_answer_words (step (Ask (RowReport r)) b).answer
unfolding refusals effect asked
report r b = by (case (Ask (RowReport r)) b)
  where
    there : (p : Place) → place b r ≡ p → is_free p ≡ false → Told report_answer_of Words.report_answer_words (gave (asked (RowReport r) b))
    there free q n = absurd (true≢false n)
    there (row key first ticks) q n = rw q (report-told key first ticks (least (missing ticks)) refl)

    by : Case (Ask (RowReport r)) b → Told report_answer_of Words.report_answer_words (step (Ask (RowReport r)) b).answer
    by (accepts n s) = rw s (there (place b r) refl n.0)
    by (refuses q s) = rw s (record { value = Err q; stands = refl; says = refl })

gap-told : (r : ℕ) (ps : List Place) → Told gap_answer_of Words.gap_words (gave (first_gap_from r ps))
unfolding first_gap_from
gap-told r [] = record { value = Ok None; stands = refl; says = refl }
gap-told r (free ∷ ps) = gap-told (suc r) ps
gap-told r (row key first ticks ∷ ps) = by (least (missing ticks)) refl (gap-told (suc r) ps)
  where
    by : (o : Option ℕ) → least (missing ticks) ≡ o → Told gap_answer_of Words.gap_words (gave (first_gap_from (suc r) ps))
        → Told gap_answer_of Words.gap_words (gave (first_gap_from r (row key first ticks ∷ ps)))
    by none e later = rw e later
    by (some i) e later = rw e (record { value = Ok (Some (record { number = position_number key first i; row = r })); stands = refl; says = refl })

gap : (b : Book) → Told gap_answer_of Words.gap_words (step (Ask FirstGap) b).answer
unfolding effect asked
gap b = by (case (Ask FirstGap) b)
  where
    by : Case (Ask FirstGap) b → Told gap_answer_of Words.gap_words (step (Ask FirstGap) b).answer
    by (accepts n s) = rw s (gap-told 0 b.places)
    by (refuses q s) = rw s (record { value = Err q; stands = refl; says = refl })

row-stream : (r : ℕ) (b : Book) → Told stream_answer_of Words.stream_words (step (Ask (RowStream r)) b).answer
unfolding refusals effect asked
row-stream r b = by (case (Ask (RowStream r)) b)
  where
    there : (p : Place) → is_free p ≡ false → Told stream_answer_of Words.stream_words (gave (place_stream p))
    there free n = absurd (true≢false n)
    there (row key first ticks) n = record { value = Ok (record { key = key; first = first }); stands = refl; says = refl }

    by : Case (Ask (RowStream r)) b → Told stream_answer_of Words.stream_words (step (Ask (RowStream r)) b).answer
    by (accepts n s) = rw s (there (place b r) n.0)
    by (refuses q s) = rw s (record { value = Err q; stands = refl; says = refl })

desk-state : (d : ℕ) (b : Book) → Told desk_answer_of Words.desk_words (step (Ask (DeskState d)) b).answer
unfolding effect asked
desk-state d b = by (case (Ask (DeskState d)) b)
  where
    there : (x : Desk) → Told desk_answer_of Words.desk_words (gave (desk_state b.places x))
    there closed = record { value = Ok None; stands = refl; says = refl }
    there (working r as_opened worked) = record { value = Ok (Some (record { row = r; stale = not (same (ticks_of (place b r)) as_opened) })); stands = refl; says = refl }

    by : Case (Ask (DeskState d)) b → Told desk_answer_of Words.desk_words (step (Ask (DeskState d)) b).answer
    by (accepts n s) = rw s (there (desk b d))
    by (refuses q s) = rw s (record { value = Err q; stands = refl; says = refl })

unsaved : (d : ℕ) (b : Book) → Told unsaved_answer_of Words.unsaved_words (step (Ask (Unsaved d)) b).answer
unfolding effect asked
unsaved d b = by (case (Ask (Unsaved d)) b)
  where
    by : Case (Ask (Unsaved d)) b → Told unsaved_answer_of Words.unsaved_words (step (Ask (Unsaved d)) b).answer
    by (accepts n s) = rw s (record { value = Ok (record { ticks = _; unticks = _ }); stands = refl; says = refl })
    by (refuses q s) = rw s (record { value = Err q; stands = refl; says = refl })

-- ---- the model's call keeps the contract

module _ (b : Book) (ok : WellFormed b) where
  -- what is told of the model's answer, with the sheet that is left, is the call's equation
  equation : (c : Call) {R : Type 0} {of : R → Answer} {words : R → List ℕ} (t : Told of words (step c b).answer)
      → (words t.value, layout (step c b).book) ≡ on_sheet (call c) (layout b)
  equation c t = ap (λ (w : List ℕ). (w, layout (step c b).book)) t.says ∙ sym (on-layout (call c) b ok)

  -- the same of a question, whose sheet stays
  answered : (q : Question) {R : Type 0} {of : R → Answer} {words : R → List ℕ} (t : Told of words (step (Ask q) b).answer)
      → (words t.value, layout b) ≡ on_sheet (call (Ask q)) (layout b)
  answered q {words = words} t = ap (λ (x : Book). (words t.value, layout x)) (sym (asking-stays q b)) ∙ equation (Ask q) t

  Kept : Call → Answer → Type 0
  Kept c a = Promised c (layout b) a (layout (step c b).book)

  asked-kept : (q : Question) (a : Answer) → Promised (Ask q) (layout b) a (layout b) → Kept (Ask q) a
  unfolding Kept
  asked-kept q a p = rw (asking-stays q b) p

  promised : (c : Call) → Kept c (step c b).answer
  unfolding Kept effect asked
  promised (Enrol key first) = let t = at-row (Enrol key first) b _ refl in subst (Kept (Enrol key first)) t.stands (enrolled t.value (equation _ t))
  promised (Ask (Find key)) =
      let t = at-row (Ask (Find key)) b _ refl in
      subst (Kept (Ask (Find key))) t.stands (asked-kept (Find key) _ (found t.value (answered (Find key) t)))
  promised (Ask (RowReport r)) =
      let t = report r b in
      subst (Kept (Ask (RowReport r))) t.stands (asked-kept (RowReport r) _ (reported t.value (answered (RowReport r) t)))
  promised (Ask FirstGap) =
      let t = gap b in
      subst (Kept (Ask FirstGap)) t.stands (asked-kept FirstGap _ (gapped t.value (answered FirstGap t)))
  promised (Ask (RowStream r)) =
      let t = row-stream r b in
      subst (Kept (Ask (RowStream r))) t.stands (asked-kept (RowStream r) _ (row_told t.value (answered (RowStream r) t)))
  promised (Ask (DeskState d)) =
      let t = desk-state d b in
      subst (Kept (Ask (DeskState d))) t.stands (asked-kept (DeskState d) _ (desk_told t.value (answered (DeskState d) t)))
  promised (Ask (Unsaved d)) =
      let t = unsaved d b in
      subst (Kept (Ask (Unsaved d))) t.stands (asked-kept (Unsaved d) _ (unsaved_told t.value (answered (Unsaved d) t)))
  promised (Open d r) = let t = plain (Open d r) b refl in subst (Kept (Open d r)) t.stands (opened t.value (equation _ t))
  promised (Mark true d n) = let t = plain (Mark true d n) b refl in subst (Kept (Mark true d n)) t.stands (ticked t.value (equation _ t))
  promised (Mark false d n) = let t = plain (Mark false d n) b refl in subst (Kept (Mark false d n)) t.stands (unticked t.value (equation _ t))
  promised (Save d) = let t = plain (Save d) b refl in subst (Kept (Save d)) t.stands (saved t.value (equation _ t))
  promised (Drop d) = let t = plain (Drop d) b refl in subst (Kept (Drop d)) t.stands (dropped t.value (equation _ t))
  promised (Strike r) = let t = plain (Strike r) b refl in subst (Kept (Strike r)) t.stands (struck t.value (equation _ t))

-- ---- a list of calls

pub chain-from : (calls : List Call) (b : Book) → WellFormed b → Chain Promised (layout b) (run b calls).log (layout (run b calls).book)
unfolding run Kept
chain-from [] b ok = stop
chain-from (c ∷ calls) b ok = next (promised b ok c) (chain-from calls (step c b).book (well-formed b ok (outcome c b)))

pub every-list-of-calls : EveryListOfCalls
every-list-of-calls s start made calls =
    let ready = made-fresh s start made ∙ fresh-layout in
    record {
      log = (run fresh calls).log;
      last = layout (run fresh calls).book;
      of_these = log-calls calls fresh;
      made = rw ready (chain-from calls fresh fresh-well-formed);
    }
