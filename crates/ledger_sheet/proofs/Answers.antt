-- Different answers have different words. Assumes nothing.
use Prim.Native.Nat.{ℕ}
use mathlib.Core.Bool.{Bool, true, false, cond}
use mathlib.Core.Path.{◌≡◌, refl, ap, ap₂}
use Rattle.std.specs.Prelude.{Option, None, Some}
use Rattle.refusals.specs.Words.{one_word, no_words, Different}
use Rattle.refusals.proofs.Words.{answers-differ, one-differs, none-differs}
use Rattle.ledger_sheet.specs.declared.Report.{Report}
use Rattle.ledger_sheet.specs.declared.Gaps.{Gaps}
use Rattle.ledger_sheet.specs.declared.Gap.{Gap}
use Rattle.ledger_sheet.specs.declared.Stream.{Stream}
use Rattle.ledger_sheet.specs.declared.Working.{Working}
use Rattle.ledger_sheet.specs.declared.Unsaved.{Unsaved}
use Rattle.ledger_sheet.specs.Words.{DifferentAnswers, DifferentRowAnswers, DifferentReports, DifferentGaps}
use Rattle.ledger_sheet.specs.Words.{DifferentStreams, DifferentDesks, DifferentUnsaved}
use Rattle.ledger_sheet.specs.Words.{gaps_values, report_values, gap_values, stream_values, desk_values, unsaved_values}

report-of : ℕ → Option Gaps → Report
report-of ticked gaps = record { ticked = ticked; gaps = gaps }

gaps-of : (missing lowest : ℕ) → Gaps
gaps-of missing lowest = record { missing = missing; lowest = lowest }

gap-of : (number row : ℕ) → Gap
gap-of number row = record { number = number; row = row }

stream-of : (key first : ℕ) → Stream
stream-of key first = record { key = key; first = first }

working-of : ℕ → Bool → Working
working-of row stale = record { row = row; stale = stale }

unsaved-of : (ticks unticks : ℕ) → Unsaved
unsaved-of ticks unticks = record { ticks = ticks; unticks = unticks }

pub answer-injective : DifferentAnswers
answer-injective = answers-differ no_words none-differs

pub row-injective : DifferentRowAnswers
row-injective = answers-differ one_word one-differs

gaps-differ : Different gaps_values
unfolding gaps-of
gaps-differ None None e = refl
gaps-differ None (Some g) e = cc
gaps-differ (Some g) None e = cc
gaps-differ (Some g) (Some h) e = ap Some (ap₂ gaps-of {x = g.missing} {y = h.missing} {u = g.lowest} {v = h.lowest} (cc) (cc))

reports-differ : Different report_values
unfolding report-of
reports-differ r q e =
    let same : r.gaps ≡ q.gaps = gaps-differ r.gaps q.gaps (cc) in
    ap₂ report-of {x = r.ticked} {y = q.ticked} {u = r.gaps} {v = q.gaps} (cc) same

pub report-injective : DifferentReports
report-injective = answers-differ report_values reports-differ

gap-values-differ : Different gap_values
unfolding gap-of
gap-values-differ None None e = refl
gap-values-differ None (Some g) e = cc
gap-values-differ (Some g) None e = cc
gap-values-differ (Some g) (Some h) e = ap Some (ap₂ gap-of {x = g.number} {y = h.number} {u = g.row} {v = h.row} (cc) (cc))

pub gap-injective : DifferentGaps
gap-injective = answers-differ gap_values gap-values-differ

streams-differ : Different stream_values
unfolding stream-of
streams-differ r q e = ap₂ stream-of {x = r.key} {y = q.key} {u = r.first} {v = q.first} (cc) (cc)

pub stream-injective : DifferentStreams
stream-injective = answers-differ stream_values streams-differ

flag-injective : (x y : Bool) → ◌≡◌ {A = ℕ} (cond x 1 0) (cond y 1 0) → x ≡ y
flag-injective true true e = refl
flag-injective true false e = cc
flag-injective false true e = cc
flag-injective false false e = refl

desks-differ : Different desk_values
unfolding working-of
desks-differ None None e = refl
desks-differ None (Some g) e = cc
desks-differ (Some g) None e = cc
desks-differ (Some g) (Some h) e =
    let flag : g.stale ≡ h.stale = flag-injective g.stale h.stale (cc) in
    ap Some (ap₂ working-of {x = g.row} {y = h.row} {u = g.stale} {v = h.stale} (cc) flag)

pub desk-injective : DifferentDesks
desk-injective = answers-differ desk_values desks-differ

unsaved-differ : Different unsaved_values
unfolding unsaved-of
unsaved-differ r q e = ap₂ unsaved-of {x = r.ticks} {y = q.ticks} {u = r.unticks} {v = q.unticks} (cc) (cc)

pub unsaved-injective : DifferentUnsaved
unsaved-injective = answers-differ unsaved_values unsaved-differ
