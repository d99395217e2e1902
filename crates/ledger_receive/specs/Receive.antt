-- What `receive` answers, the lent list after it, and the sheet after it. Assumes nothing.
-- The manual, docs/INTERFACE.md: "Calls on the ledger".
use Rattle.std.specs.Prelude.{ℕ, suc, not, cond, List, [], ◌∷◌, ◌++◌, map, eqb, length, drop, Result}
use Rattle.refusals.specs.declared.Refusal.{Refusal}
use Rattle.refusals.specs.Words.{answer_words, Different}
use Rattle.refusals.specs.Judge.{Rule, ◌when◌, judge, none_applies}
use Rattle.sfdu.specs.Read.{kind_of}
use Rattle.sfdu_headers.specs.Fields.{record_number}
use Rattle.sfdu_headers.specs.Headers.{key_of}
use Rattle.sfdu_headers.specs.Ranges.{field_rules}
use Rattle.sfdu_stream.specs.declared.Entry.{Entry}
use Rattle.sfdu_stream.specs.Walk.{words_of}
use Rattle.sfdu_stream.specs.Listing.{listing, answer, fills}
use Rattle.ledger_model.specs.Book.{Book, desk, is_desk, is_open}
use Rattle.ledger_model.specs.Step.{run}
use Rattle.ledger_sheet.specs.Sheet.{right}
use Rattle.ledger_layout.specs.Layout.{layout, book_of}
use Rattle.ledger_receive.specs.declared.Received.{Received}
use Rattle.ledger_receive.specs.Visits.{Arrival, unread, arrived, visits, outcomes}

-- ---- the words of the answer

-- The count, the stop place, the stop number and its second number, as a list answers them; and how many records were ticked.
abbrev pub received_values : Received → List ℕ
received_values r = words_of r.walked ++ (r.ticked ∷ [])

-- 0 and these values; or the refusal's number.
abbrev pub received_words : Result Received Refusal → List ℕ
received_words answer = answer_words received_values answer

-- Different answers have different words.
abbrev pub DifferentReceived : Type 0
DifferentReceived = Different received_words

-- ---- what the records say

-- What the whole record at the start of s says: its stream's key and its number; nothing if a field of its header is out of range.
unfoldable pub arrival_in : List ℕ → Arrival
arrival_in s = cond (none_applies (field_rules (kind_of s) s)) (arrived (key_of (kind_of s) s) (record_number (kind_of s) s)) unread

-- What the records say that a list has entries for.
abbrev pub arrivals : (stream : List ℕ) → List Entry → List Arrival
arrivals stream entries = map (λ (e : Entry). arrival_in (drop e.place stream)) entries

-- ---- the call

-- The refusals, in this order: 20, 21, 26.
abbrev pub receive_rules : (d : ℕ) (s : List ℕ) → List (Rule ℕ)
receive_rules d s = (20 when not (right s)) ∷ (21 when not (is_desk d)) ∷ (26 when is_open (desk (book_of s) d)) ∷ []

-- How many outcomes are 0.
unfoldable pub ticked_in : List ℕ → ℕ
ticked_in [] = 0
ticked_in (o ∷ outcomes) = cond (eqb o 0) (suc (ticked_in outcomes)) (ticked_in outcomes)

-- Words, list and sheet of a receive on a right sheet with the book b. It handles the records that a list of this length has entries for; each makes
-- its visit, and its outcome is written into the list.
abbrev pub receiving : (d : ℕ) (stream list : List ℕ) → Book → List ℕ × List ℕ × List ℕ
receiving d stream list b =
    let listed = listing (length list) stream 0 in
    let xs = arrivals stream listed.entries in
    let outs = outcomes d xs b in
    (0 ∷ answer listed ++ (ticked_in outs ∷ []), fills outs list, layout (run b (visits d xs b)).book)

-- A refusal leaves list and sheet unchanged.
unfoldable pub receive_on : (d : ℕ) (stream list s : List ℕ) → List ℕ × List ℕ × List ℕ
receive_on d stream list s = judge (λ number. (number ∷ [], list, s)) (receive_rules d s) (receiving d stream list (book_of s))
