-- The laws of receive, on sheets. Assumes nothing.
use Prim.Native.Nat.{ℕ, ◌<◌}
use mathlib.Core.Path.{◌≡◌, refl, sym, ap, ◌∙◌}
use mathlib.Core.Bool.{Bool, true, false}
use mathlib.Core.Option.{some}
use mathlib.Core.List.{List, ◌∷◌, ◌++◌, map}
use borrow.Author.Tests.{ltb-true, ltb-false}
use lib.Dec.{ltb}
use lib.ListN.{length, get_or, get_or-append, get_or-eq_default}
use Rattle.ledger_layout.proofs.Demand3.{proper}
use Rattle.sfdu_stream.specs.Listing.{fills, list_numbers}
use Rattle.ledger_model.specs.Book.{Book, fresh, place, desk, closed}
use Rattle.ledger_model.specs.Step.{Call, Answer, step, Entry, ◌⇒◌, call_of, Run, run}
use Rattle.ledger_model.specs.WellFormed.{WellFormed, key_of}
use Rattle.ledger_model.specs.Chain.{Chain, stop, next}
use Rattle.ledger_model.specs.Kept.{TickedIn, taken_out}
use Rattle.ledger_model.proofs.Claim.{log-calls}
use Rattle.ledger_model.proofs.Laws.{words-injective, step-proper, run-append}
use Rattle.ledger_model.proofs.WellFormed.{fresh-well-formed, well-formed-from}
use Rattle.ledger_layout.specs.Layout.{layout, book_of}
use Rattle.ledger_layout.proofs.Sheets.{fresh-layout}
use Rattle.ledger.specs.Demand3.{Promised}
use Rattle.ledger.specs.Private.{History}
use Rattle.ledger.proofs.Demand3.{meets, made-fresh}
use Rattle.ledger.proofs.Every.{chain-from}
use Rattle.ledger_receive.specs.Visits.{Arrival, unread, arrived, visits, outcomes, WasReceived, NotOrdered}
use Rattle.ledger_receive.specs.Laws.{handled, calls_of, Accepted, list_after, sheet_after, ReceiveIsCalls, HistoryGoesOn, WalksAsListed}
use Rattle.ledger_receive.specs.Laws.{NotOrderedIn, ReceivedIsNotOrdered}
use Rattle.ledger_receive.proofs.Sheets.{Holds, holds-own, holds-book, after}
use Rattle.ledger_receive.proofs.Receives.{ready, made-is}
use Rattle.ledger_receive.proofs.Visits.{outcomes-count, not-unread, received-not-ordered}

sheet-is : (d : ℕ) (stream list s : List ℕ) → Accepted d s → sheet_after d stream list s ≡ layout (run (book_of s) (calls_of d stream list s)).book
sheet-is d stream list s a = ap (λ o. o.2) (made-is d s a stream list)

-- ---- a receive is a list of calls

from-laid : (s : List ℕ) (b : Book) {log : List Entry} {t : List ℕ} → s ≡ layout b → Chain Promised (layout b) log t → Chain Promised s log t
from-laid s b e k = rw e k

pub receive-is-calls : ReceiveIsCalls
receive-is-calls d stream list s bytes a =
    let h = holds-own s (λ k. record { fits = bytes k }) (ready d s a).is_right in
    let calls = calls_of d stream list s in
    record {
      log = (run (book_of s) calls).log;
      of_these = log-calls calls (book_of s);
      made = rw (sheet-is d stream list s a) (from-laid s (book_of s) h.is-laid (chain-from calls (book_of s) h.is-well));
    }

pub walks-as-listed : WalksAsListed
unfolding list_numbers
walks-as-listed d stream list s a columns e = ap (λ o. o.0) (made-is d s a stream list) ∙ rw e refl

-- ---- a chain of calls from a book laid out

pub record Ran (b : Book) (log : List Entry) (t : List ℕ) : Type 0 where
  pub answers : (run b (map call_of log)).log ≡ log
  pub holds : Holds t (run b (map call_of log)).book

pub ran : {s t : List ℕ} {log : List Entry} → Chain Promised s log t → (b : Book) → Holds s b → Ran b log t
unfolding run
ran stop b h = record { answers = refl; holds = h }
ran (next {c = c} {a = a} {es = es} p k) b h =
    let m = meets p in
    let one = after c h m.1 in
    let is = words-injective a (step c b).answer (proper a m.0) (step-proper c b) one.words_are in
    let rest = ran k (step c b).book one.holds in
    record { answers = one_more (sym is) rest.answers; holds = rest.holds }
  where
    one_more : {x : Answer} {l : List Entry} → x ≡ a → l ≡ es → (c ⇒ x) ∷ l ≡ (c ⇒ a) ∷ es
    one_more e q = cc

-- The book of a night's sheet.
pub history-ran : (past : List Entry) (s : List ℕ) → History past s → Ran fresh past s
history-ran past s n =
    ran n.calls_made fresh (record { is-well = fresh-well-formed; is-laid = made-fresh n.slice n.start n.made-fresh ∙ fresh-layout })

-- A history goes on.
pub chain-append : {s t u : List ℕ} {es fs : List Entry} → Chain Promised s es t → Chain Promised t fs u → Chain Promised s (es ++ fs) u
chain-append stop q = q
chain-append (next p k) q = next p (chain-append k q)

-- by the calls of a receive
pub receive-chain : (d : ℕ) (stream list s : List ℕ) (b : Book) → Holds s b → Accepted d s
    → Chain Promised s (run (book_of s) (calls_of d stream list s)).log (sheet_after d stream list s)
receive-chain d stream list s b h a =
    let well : WellFormed (book_of s) = rw (holds-book h) h.is-well in
    let laid : s ≡ layout (book_of s) = h.is-laid ∙ ap layout (sym (holds-book h)) in
    rw (sheet-is d stream list s a) (from-laid s (book_of s) laid (chain-from (calls_of d stream list s) (book_of s) well))

pub history-goes-on : HistoryGoesOn
history-goes-on past s n d stream list a =
    record {
      slice = n.slice;
      start = n.start;
      made-fresh = n.made-fresh;
      calls_made = chain-append n.calls_made (receive-chain d stream list s _ (history-ran past s n).holds a);
    }

-- ---- what was received is not ordered

key-of : {b : Book} {r key first n : ℕ} → TickedIn b r key first n → key_of (place b r) ≡ some key
key-of t = ap key_of t.is-row

-- From the model's books to the sheets that hold them.
on-sheets : (before : Run) (calls : List Call) (key n : ℕ) → NotOrdered before calls key n
    → {past more : List Entry} {t last : List ℕ} → before.log ≡ past → Holds t before.book
    → (run before.book calls).log ≡ more → Holds last (run before.book calls).book → NotOrderedIn past t more last key n
on-sheets before calls key n k {past = past} {more = more} {t = t} {last = last} p h q g =
    let at_first = holds-book h in
    let at_last = holds-book g in
    let taken : taken_out k.row n past more ≡ false → taken_out k.row n before.log (run before.book calls).log ≡ false =
    λ z. rw (p, q) z in
    record {
      row = k.row;
      is_its_row = rw at_first (key-of k.ticked);
      not-missing = λ m. k.not-missing (rw at_first at m);
      still_its_row = λ z. rw at_last (key-of (k.stays (taken z)));
      still_not_missing = λ z m. k.stays_not_missing (taken z) (rw at_last at m);
    }

-- An entry of the list that has an arrival has its outcome.
listed-outcome : (d : ℕ) (xs : List Arrival) (b : Book) (list : List ℕ) (i key n : ℕ) → get_or xs i unread ≡ arrived key n
    → get_or (fills (outcomes d xs b) list) i 12 ≡ get_or (outcomes d xs b) i 12
listed-outcome d xs b list i key n e = get_or-append (outcomes d xs b) _ 12 i (rw (outcomes-count d xs b) (by (ltb i (length xs)) refl))
  where
    by : (f : Bool) → ltb i (length xs) ≡ f → i < length xs
    by true q = ltb-true i (length xs) q
    by false q = absurd (not-unread (sym (get_or-eq_default xs unread {n = i} (ltb-false i (length xs) q)) ∙ e))

pub received-is-not-ordered : ReceivedIsNotOrdered
received-is-not-ordered past s history d stream list a more last chain i key n e o =
    let calls = map call_of past in
    let xs = handled stream list in
    let k = history-ran past s history in
    let b = (run fresh calls).book in
    let b-is : book_of s ≡ b = holds-book k.holds in
    let r = ready d s a in
    let shut : desk b d ≡ closed = rw b-is at r.is-closed in
    let list-is : list_after d stream list s ≡ fills (outcomes d xs (book_of s)) list = ap (λ z. z.1) (made-is d s a stream list) in
    let told : get_or (list_after d stream list s) i 12 ≡ get_or (outcomes d xs b) i 12 =
    ap (λ (l : List ℕ). get_or l i 12) list-is ∙ listed-outcome d xs (book_of s) list i key n e ∙ ap (λ c. get_or (outcomes d xs c) i 12) b-is in
    let out : WasReceived (get_or (outcomes d xs b) i 12) = rw told at o in
    let not-ordered = received-not-ordered calls (map call_of more) d r.is-desk shut xs i key n e out in
    let joined = run-append fresh calls (visits d xs b) in
    let book-is : (run fresh (calls ++ visits d xs b)).book ≡ (run b (visits d xs b)).book = ap (λ (u : Run). u.book) joined in
    let log_is : (run fresh (calls ++ visits d xs b)).log ≡ past ++ (run (book_of s) (calls_of d stream list s)).log =
    ap (λ (u : Run). u.log) joined ∙ ap (λ l. l ++ (run b (visits d xs b)).log) k.answers
    ∙ ap (λ c. past ++ (run c (visits d xs c)).log) (sym b-is) in
    let left : Holds (sheet_after d stream list s) (run fresh (calls ++ visits d xs b)).book =
    record {
      is-well = rw book-is (well-formed-from (visits d xs b) b k.holds.is-well);
      is-laid = sheet-is d stream list s a ∙ ap (λ c. layout (run c (visits d xs c)).book) b-is ∙ ap layout (sym book-is);
    } in
    let After-more = ran chain (run fresh (calls ++ visits d xs b)).book left in
    on-sheets (run fresh (calls ++ visits d xs b)) (map call_of more) key n not-ordered log_is left After-more.answers After-more.holds
