-- The laws of nights of calls and receives. Assumes nothing.
use Prim.Native.Nat.{ℕ}
use native.Mathlib.Omega.{arith}
use mathlib.Core.Path.{◌≡◌, refl, ap, ◌∙◌}
use mathlib.Core.List.{List, [], ◌∷◌}
use Rattle.refusals.proofs.Judged.{Outcome, outcome, none, first, NoneHolds, First, none-verdict, none-judge, first-judge, verdict-none}
use Rattle.ledger_model.specs.Book.{Book, fresh}
use Rattle.ledger_model.specs.Step.{Entry, run}
use Rattle.ledger_model.specs.Chain.{Chain, stop, next}
use Rattle.ledger_model.proofs.WellFormed.{fresh-well-formed}
use Rattle.ledger_layout.specs.Layout.{book_of}
use Rattle.ledger_layout.proofs.Sheets.{fresh-layout}
use Rattle.ledger.specs.Demand3.{Promised}
use Rattle.ledger.proofs.Demand3.{meets, made-fresh}
use Rattle.ledger_receive.specs.Receive.{receive_rules, receive_on}
use Rattle.ledger_receive.specs.Laws.{calls_of, sheet_after}
use Rattle.ledger_receive.specs.Histories.{receive_log, Steps, ended, called, received, StepsAreHistory, AnyReceivedIsNotOrdered}
use Rattle.ledger_receive.proofs.Sheets.{Holds, after}
use Rattle.ledger_receive.proofs.Laws.{receive-chain, ran, chain-append, history-ran, received-is-not-ordered}

-- ---- the calls of a receive

module _ (d : ℕ) (stream list s : List ℕ) where
  -- made
  log_is : NoneHolds (receive_rules d s) → receive_log d stream list s ≡ (run (book_of s) (calls_of d stream list s)).log
  unfolding receive_log
  log_is h = none-judge _ (receive_rules d s) _ h

  -- refused
  log-none : {g : ℕ} → First (receive_rules d s) g → receive_log d stream list s ≡ []
  unfolding receive_log
  log-none f = first-judge _ _ f

  sheet-same : {g : ℕ} → First (receive_rules d s) g → sheet_after d stream list s ≡ s
  unfolding receive_on
  sheet-same f = ap (λ (o : List ℕ × List ℕ × List ℕ). o.2) (first-judge (λ number. (number ∷ [], list, s)) _ f)

along : {s t t' : List ℕ} {log log' : List Entry} → log ≡ log' → t ≡ t' → Chain Promised s log' t' → Chain Promised s log t
along e q k = rw (e, q) k

receive-steps : (d : ℕ) (stream list s : List ℕ) (b : Book) → Holds s b → Chain Promised s (receive_log d stream list s) (sheet_after d stream list s)
receive-steps d stream list s b h = by (outcome (receive_rules d s))
  where
    by : Outcome (receive_rules d s) → Chain Promised s (receive_log d stream list s) (sheet_after d stream list s)
    by (none n) = along (log_is d stream list s n) refl (receive-chain d stream list s b h (none-verdict (receive_rules d s) n))
    by (first g f) = along (log-none d stream list s f) (sheet-same d stream list s f) stop

-- ---- steps are calls

steps-chain : {s t : List ℕ} {log : List Entry} → Steps s log t → (b : Book) → Holds s b → Chain Promised s log t
steps-chain ended b h = stop
steps-chain (called {c = c} p k) b h = next p (steps-chain k _ (after c h (meets p).1).holds)
steps-chain (received {s = s} d stream list k) b h =
    let chain = receive-steps d stream list s b h in
    chain-append chain (steps-chain k _ (ran chain b h).holds)

pub steps-are-history : StepsAreHistory
steps-are-history slice start m log last k =
    let h : Holds start fresh = record { is-well = fresh-well-formed; is-laid = made-fresh slice start m ∙ fresh-layout } in
    record { slice = slice; start = start; made-fresh = m; calls_made = steps-chain k fresh h }

-- ---- what was received is not ordered

pub any-received-is-not-ordered : AnyReceivedIsNotOrdered
any-received-is-not-ordered slice start m past s k d stream list a more last l i key n e o =
    let history = steps-are-history slice start m past s k in
    let h = (history-ran past s history).holds in
    let none = verdict-none (receive_rules d s) (omega arith, (omega arith, (omega arith, tt))) a in
    let chain = receive-steps d stream list s _ h in
    let on = steps-chain l _ (ran chain _ h).holds in
    let same = log_is d stream list s none in
    rw same (received-is-not-ordered past s history d stream list a more last on i key n e o)
