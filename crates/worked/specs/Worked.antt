-- Document 01, "Worked examples, marked P for proof": one table of checks. Each has what a definition of the public contracts gives, and what the
-- paper says. Refusal 5 has its field's offset, 12, as second number (document 02, Req 05). Assumes nothing.
use Rattle.std.specs.Prelude.{ℕ, ◌+◌, List, [], ◌∷◌, ◌++◌, map, ◌≡◌, pos, negsuc, length, get_or, take, drop}
use Rattle.sfdu.specs.declared.Kind.TheVariants.{Telemetry, Rsr}
use Rattle.sfdu.specs.Read.{read_one, data_part}
use Rattle.sfdu_headers.specs.Words.{Word, number, signed}
use Rattle.sfdu_headers.specs.Headers.{read_headers}
use Rattle.keys.specs.Key.{telemetry_key_call}
use Rattle.ledger_model.specs.Positions.{position}
use Rattle.ledger_model.specs.Step.{Call, Enrol, Ask, RowReport, Open, Tick, Untick, Save}
use Rattle.ledger_sheet.specs.Sheet.{row_at, ticks_at}
use Rattle.ledger_layout.specs.Bytes.{fresh_sheet}
use Rattle.ledger_layout.specs.Layout.{call, on_sheet}
use Rattle.worked.specs.Calls.{answers_on, sheet_after}
use Rattle.worked.specs.Records.{plain, relabelled, p4, p6}

pub record Check : Type 0 where
  pub got : List Word
  pub expected : List Word

abbrev pub check : (got expected : List Word) → Check
check got expected = record { got = got; expected = expected }

abbrev pub numbers : (got expected : List ℕ) → Check
numbers got expected = check (map number got) (map number expected)

-- The claim about a table: every check agrees.
infixr 30 ◌also◌
pub data Agree : List Check → Type 0 where
  all_of_none : Agree []
  ◌also◌ : {c : Check} {rest : List Check} → c.got ≡ c.expected → Agree rest → Agree (c ∷ rest)

-- ---- the calls of P7 to P10, on a fresh sheet; desk A is 0, desk B is 1

-- P5's key.
abbrev pub key : ℕ
key = 760930632193

abbrev pub high_first : ℕ
high_first = 4294967290

abbrev pub p7 : List Call
p7 = Enrol key high_first ∷ Open 0 0 ∷ Tick 0 3 ∷ Tick 0 1017 ∷ Tick 0 1018 ∷ Save 0 ∷ []

abbrev pub p8_empty : List Call
p8_empty = Enrol key 1 ∷ []

abbrev pub p8 : List Call
p8 = p8_empty ++ (Open 0 0 ∷ Tick 0 1 ∷ Tick 0 2 ∷ Tick 0 4 ∷ Save 0 ∷ [])

abbrev pub p9_stale : List Call
p9_stale = Enrol key 1 ∷ Open 0 0 ∷ Open 1 0 ∷ Tick 0 1 ∷ Tick 1 2 ∷ Save 0 ∷ Save 1 ∷ []

abbrev pub p9 : List Call
p9 = p9_stale ++ (Open 1 0 ∷ Tick 1 2 ∷ Save 1 ∷ [])

abbrev pub p10 : List Call
p10 = Enrol key 1 ∷ Open 0 0 ∷ Open 1 0 ∷ Tick 1 5 ∷ Save 1 ∷ Open 1 0 ∷ Untick 1 5 ∷ Save 1 ∷ Tick 0 7 ∷ Save 0 ∷ []

-- The first word of each answer: 0 if the call is accepted, else the refusal's number.
abbrev pub verdicts : List Call → List ℕ
verdicts calls = map (λ words. get_or words 0 0) (answers_on calls fresh_sheet)

-- The report of row 0; and the first byte of its ticks, which holds positions 0 to 7 from the lowest bit.
abbrev pub report_after : List Call → List ℕ
report_after calls = (on_sheet (call (Ask (RowReport 0))) (sheet_after calls fresh_sheet)).0

abbrev pub tick_byte_after : List Call → List ℕ
tick_byte_after calls = get_or (sheet_after calls fresh_sheet) (row_at 0 + ticks_at) 0 ∷ []

-- ---- the table

abbrev pub table : List Check
table =
    -- P1: the shortest telemetry record has 120 bytes and no data. With 99 in its label it is refused (5).
    numbers (take 3 (read_one (plain Telemetry 0))) (0 ∷ 1 ∷ 120 ∷ [])
    ∷ numbers (length (data_part (plain Telemetry 0)) ∷ []) (0 ∷ [])
    ∷ numbers (read_one (relabelled 99 (plain Telemetry 0))) (5 ∷ 12 ∷ [])
    -- P2: the longest telemetry record has 65,535 bytes of data. With a length one higher in its label it is refused (5).
    ∷ numbers (take 3 (read_one (plain Telemetry 65535))) (0 ∷ 1 ∷ 65655 ∷ [])
    ∷ numbers (length (data_part (plain Telemetry 65535)) ∷ []) (65535 ∷ [])
    ∷ numbers (read_one (relabelled 65636 (plain Telemetry 65535))) (5 ∷ 12 ∷ [])
    -- P3: the shortest RSR record has 260 bytes. With 239 in its label it is refused (5).
    ∷ numbers (take 3 (read_one (plain Rsr 0))) (0 ∷ 2 ∷ 260 ∷ [])
    ∷ numbers (read_one (relabelled 239 (plain Rsr 0))) (5 ∷ 12 ∷ [])
    -- P4: the spacecraft is the low ten bits of two bytes: 254 and 5 give 517.
    ∷ check (take 1 (drop 7 (read_headers 1 p4))) (number 517 ∷ [])
    -- P5: a telemetry key, made from spacecraft, source, equipment and stream.
    ∷ numbers (telemetry_key_call 177 43 2 1) (0 ∷ 760930632193 ∷ [])
    -- P6: Px/No is signed: the lowest value, -1, the highest value.
    ∷ check (take 1 (drop 19 (read_headers 2 (p6 128)))) (signed (negsuc 127) ∷ [])
    ∷ check (take 1 (drop 19 (read_headers 2 (p6 255)))) (signed (negsuc 0) ∷ [])
    ∷ check (take 1 (drop 19 (read_headers 2 (p6 127)))) (signed (pos 127) ∷ [])
    -- P7: a row whose numbers pass 2^32. Number 3 is at position 9, 1,017 at the last position, 1,023, and 1,018 is outside the row (28).
    ∷ numbers (position key high_first 3 ∷ position key high_first 1017 ∷ []) (9 ∷ 1023 ∷ [])
    ∷ numbers (verdicts p7) (0 ∷ 0 ∷ 0 ∷ 0 ∷ 28 ∷ 0 ∷ [])
    ∷ numbers (report_after p7) (0 ∷ 2 ∷ 1022 ∷ high_first ∷ [])
    -- P8: 1, 2 and 4 are ticked, so 3 is missing. A row without ticks has nothing missing.
    ∷ numbers (report_after p8) (0 ∷ 3 ∷ 1 ∷ 3 ∷ [])
    ∷ numbers (report_after p8_empty) (0 ∷ 0 ∷ 0 ∷ [])
    -- P9: two desks open one row. The second save is stale (31) and does not change the row. Opened and ticked again, the desk saves its tick.
    ∷ numbers (verdicts p9) (0 ∷ 0 ∷ 0 ∷ 0 ∷ 0 ∷ 0 ∷ 31 ∷ 0 ∷ 0 ∷ 0 ∷ [])
    ∷ numbers (tick_byte_after p9_stale ++ report_after p9_stale) (1 ∷ 0 ∷ 1 ∷ 0 ∷ [])
    ∷ numbers (tick_byte_after p9 ++ report_after p9) (3 ∷ 0 ∷ 2 ∷ 0 ∷ [])
    -- P10: the row's set is again what desk A opened, so A's save is accepted: 7 is ticked.
    ∷ numbers (verdicts p10) (0 ∷ 0 ∷ 0 ∷ 0 ∷ 0 ∷ 0 ∷ 0 ∷ 0 ∷ 0 ∷ 0 ∷ [])
    ∷ numbers (tick_byte_after p10 ++ report_after p10) (64 ∷ 0 ∷ 1 ∷ 6 ∷ 1 ∷ [])
    ∷ []
