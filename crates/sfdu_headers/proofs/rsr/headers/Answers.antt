-- `sfdu_headers::rsr::headers` meets its contract. Assumes nothing.
use mathlib.Core.List.{[], ◌∷◌}
use mathlib.Core.Path.{sym, ap, ◌∙◌}
use Rattle.sfdu.proofs.Handed.{handed-on}
use Rattle.sfdu_headers.specs.Words.{number}
use Rattle.sfdu_headers.specs.Headers.{rsr_words}
use Rattle.sfdu_headers.specs.inner.Found.{found_words}
use Rattle.sfdu_headers.proofs.Judged.{byte-refused, date-refused, date-accepted}
use Rattle.sfdu_headers.proofs.rsr.headers.Goals as goal

pub returns-in_err-judge_bytes : goal.returns-in_err-judge_bytes
returns-in_err-judge_bytes c =
    ap (found_words rsr_words) (handed-on _ c.from_residual.ensures.1)
    ∙ byte-refused _ _ (sym c.judge_bytes.ensures ∙ c.in_err-judge_bytes.was)

pub returns-in_err-count : goal.returns-in_err-count
returns-in_err-count c =
    ap (found_words rsr_words) (handed-on _ c.from_residual-in_err-count.ensures.1)
    ∙ date-refused _ _ _ (sym c.judge_bytes.ensures ∙ c.in_ok-judge_bytes.was) (sym c.read_date.ensures ∙ c.in_err-count.was)

pub read_fields-requires : goal.read_fields-requires
read_fields-requires c =
    let pre = c.requires in
    let right = date-accepted _ _ _ (sym c.judge_bytes.ensures ∙ c.in_ok-judge_bytes.was) (sym c.read_date.ensures ∙ c.in_ok-count.was) in
    (pre.0, pre.1, pre.2, ap (λ count. number count ∷ []) right.0)

pub returns : goal.returns
returns c =
    let right = date-accepted _ _ _ (sym c.judge_bytes.ensures ∙ c.in_ok-judge_bytes.was) (sym c.read_date.ensures ∙ c.in_ok-count.was) in
    c.read_fields.ensures ∙ right.1
