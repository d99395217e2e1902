-- Demand 3 for every list of the ledger's calls on a fresh sheet. Assumes nothing.
use Prim.Native.Nat.{ℕ}
use mathlib.Core.Bool.{Bool, true, false}
use mathlib.Core.List.{List, [], ◌∷◌}
use mathlib.Core.Path.{◌≡◌, refl, sym, ap, ◌∙◌}
use lib.Dec.{eqb}
use lib.ListN.{length}
use Rattle.ledger_model.specs.Book.{fresh}
use Rattle.ledger_model.specs.Step.{Call, Answer, Entry}
use Rattle.ledger_model.specs.Chain.{Chain, stop, next}
use Rattle.ledger_sheet.specs.Sheet.{sheet_size}
use Rattle.ledger_sheet.specs.Outcome.{Outcome}
use Rattle.ledger_layout.specs.Bytes.{fresh_sheet}
use Rattle.ledger_layout.specs.Layout.{layout, fresh_on}
use Rattle.ledger_layout.specs.inner.Demand3 as Layout
use Rattle.ledger_layout.proofs.Demand3.{answer-meets, demand3}
use Rattle.ledger_layout.proofs.Sheets.{fresh-layout}
use Rattle.ledger.specs.Demand3.{MadeFresh, Promised, enrolled, found, reported, gapped, row_told, desk_told, unsaved_told}
use Rattle.ledger.specs.Demand3.{opened, ticked, unticked, saved, dropped, struck, Demand3, EveryDemand3}

-- each contract's equation is the promise that the claim asks for
pub meets : {c : Call} {s t : List ℕ} {a : Answer} → Promised c s a t → Layout.Meets c s a t
meets (enrolled r e) = answer-meets _ _ _ r _ e
meets (found r e) = answer-meets _ _ _ r _ e
meets (reported r e) = answer-meets _ _ _ r _ e
meets (gapped r e) = answer-meets _ _ _ r _ e
meets (row_told r e) = answer-meets _ _ _ r _ e
meets (desk_told r e) = answer-meets _ _ _ r _ e
meets (unsaved_told r e) = answer-meets _ _ _ r _ e
meets (opened r e) = answer-meets _ _ _ r _ e
meets (ticked r e) = answer-meets _ _ _ r _ e
meets (unticked r e) = answer-meets _ _ _ r _ e
meets (saved r e) = answer-meets _ _ _ r _ e
meets (dropped r e) = answer-meets _ _ _ r _ e
meets (struck r e) = answer-meets _ _ _ r _ e

chain-meets : {s t : List ℕ} {log : List Entry} → Chain Promised s log t → Chain Layout.Meets s log t
chain-meets stop = stop
chain-meets (next p ps) = next (meets p) (chain-meets ps)

-- ---- the start

pub made-fresh : (s start : List ℕ) → MadeFresh s start → start ≡ fresh_sheet
unfolding fresh_on
made-fresh s start e = by (eqb (length s) sheet_size) refl
  where
    by : (b : Bool) → eqb (length s) sheet_size ≡ b → start ≡ fresh_sheet
    by true t = let d : ◌≡◌ {A = Outcome} (0 ∷ [], start) (0 ∷ [], layout fresh) = rw t at e in ap (λ r. r.1) d ∙ sym fresh-layout
    by false t = let d : ◌≡◌ {A = Outcome} (0 ∷ [], start) (20 ∷ [], s) = rw t at e in
        let f : ◌≡◌ {A = List ℕ} (0 ∷ []) (20 ∷ []) = ap (λ r. r.0) d in
        cc

-- ---- the theorem

pub demand-3 : (s : List ℕ) {start last : List ℕ} {log : List Entry} → MadeFresh s start → Chain Promised start log last → Demand3 start log last
demand-3 s {start} {last} {log} made chain =
    let ready = made-fresh s start made in
    let promised = chain-meets chain in
    let whole = demand3 (rw ready at promised) in
    let model = whole.claim in
    record {
      claim = record {
        model_answers = model.model_answers;
        model_store = model.model_store;
        serial-entries = model.serial-entries;
        serial-order = model.serial-order;
        serial_saves = model.serial_saves;
        serial-run = model.serial-run;
        serial_store = λ again end other e. model.serial_store again end (chain-meets other) e;
        as_opened = model.as_opened;
        stale-exactly = model.stale-exactly;
        stale-cause = model.stale-cause;
      };
      serial_rows = λ again end other e.
          let repeated = chain-meets other in
          whole.serial_rows again end (rw (ready, fresh-layout) at repeated) e;
    }

pub every-demand-3 : EveryDemand3
every-demand-3 s start last log made chain = demand-3 s made chain
