-- The worked examples hold: by computation, and on sheets by the law that takes a list of calls to the model. Assumes nothing.
use Prim.Native.Nat.{ℕ, ◌+◌}
use mathlib.Core.List.{List, [], ◌∷◌, ◌++◌, map}
use mathlib.Core.Path.{◌≡◌, refl, ap, ◌∙◌}
use lib.ListN.{get_or}
use Rattle.refusals.specs.Judge.{judge}
use Rattle.octets.specs.Octets.{number_at, bytes_of, part, put, all, same_at}
use Rattle.sfdu.specs.Read.{has_kind, kind_of, label_length, record_length, block_type, block_length, length_in_range, accepts, read_one, data_part}
use Rattle.sfdu_write.specs.Write.{label_bytes, block, primary_block, head_bytes, record_bytes}
use Rattle.sfdu_headers.specs.Words.{number}
use Rattle.sfdu_headers.specs.Fields.{signed_byte, record_number}
use Rattle.dates.specs.Calendar.{is_leap, year_length, is_year, is_day}
use Rattle.sfdu_headers.specs.Ranges.{is_rsr_band, is_band, in_range, judged_bytes}
use Rattle.sfdu_headers.specs.inner.Fault.{fault}
use Rattle.sfdu_headers.specs.Headers.{read_headers}
use Rattle.keys.specs.Key.{valid_key, telemetry_key_call}
use Rattle.keys.specs.Numbers.{modulus}
use Rattle.ledger_model.specs.Positions.{position, no_ticks, same, size, any_ticked, missing, least, position_number}
use Rattle.ledger_model.specs.Book.{fresh, has_key, place_with, all_used, lowest_free}
use Rattle.ledger_model.specs.Step.{RowReport, Call, Ask, refusals, asked, effect, after_refusal, step, run}
use Rattle.ledger_model.proofs.WellFormed.{run-well-formed}
use Rattle.ledger_sheet.specs.Sheet.{row_at, ticks_at}
use Rattle.ledger_layout.specs.Rows.{row_bytes}
use Rattle.ledger_layout.specs.Bytes.{header_bytes}
use Rattle.ledger_layout.specs.Layout.{bits_value, tick_bytes, place_bytes, count_used, layout, call, on_sheet}
use Rattle.octets.specs.Lists.{laid}
use Rattle.ledger_layout.proofs.Sheets.{on-layout}
use Rattle.worked.specs.Worked.{Agree, ◌also◌, all_of_none, table, p7, p8_empty, p8, p9_stale, p9, p10, verdicts, report_after, tick_byte_after}
use Rattle.worked.proofs.Sheet.{words_in, answers-fresh, after-fresh}

-- ---- on a sheet: what the model gives

module _ (calls : List Call) where
  said : verdicts calls ≡ map (λ words. get_or words 0 0) (map words_in (run fresh calls).log)
  said = ap (map (λ words. get_or words 0 0)) (answers-fresh calls)

  reported : report_after calls ≡ (call (Ask (RowReport 0)) (run fresh calls).book).0
  reported =
      ap (λ (s : List ℕ). (on_sheet (call (Ask (RowReport 0))) s).0) (after-fresh calls)
      ∙ ap (λ x. x.0) (on-layout (call (Ask (RowReport 0))) (run fresh calls).book (run-well-formed calls))

  ticks : tick_byte_after calls ≡ get_or (layout (run fresh calls).book) (row_at 0 + ticks_at) 0 ∷ []
  ticks = ap (λ (s : List ℕ). get_or s (row_at 0 + ticks_at) 0 ∷ []) (after-fresh calls)

  both : map number (tick_byte_after calls ++ report_after calls)
      ≡ map number (get_or (layout (run fresh calls).book) (row_at 0 + ticks_at) 0 ∷ (call (Ask (RowReport 0)) (run fresh calls).book).0)
  both = ap (λ (x : List ℕ). map number (x ++ report_after calls)) ticks
      ∙ ap (λ (x : List ℕ). map number (get_or (layout (run fresh calls).book) (row_at 0 + ticks_at) 0 ∷ x)) reported

pub worked : Agree table
unfolding judge modulus number_at bytes_of part put all same_at has_kind kind_of label_length record_length block_type block_length length_in_range accepts
    read_one data_part label_bytes block primary_block head_bytes record_bytes signed_byte record_number is_leap year_length is_year is_day is_rsr_band is_band
    in_range judged_bytes fault read_headers valid_key telemetry_key_call position no_ticks same size any_ticked missing least position_number has_key
    place_with all_used lowest_free refusals effect after_refusal step run row_bytes header_bytes bits_value tick_bytes place_bytes count_used laid layout asked
worked =
    refl also refl also refl also refl also refl also refl also refl also refl also refl also refl also refl also refl also refl also refl
    also ap (map number) (said p7) also ap (map number) (reported p7) also ap (map number) (reported p8) also ap (map number) (reported p8_empty)
    also ap (map number) (said p9) also both p9_stale also both p9 also ap (map number) (said p10) also both p10
    also all_of_none
