-- `sfdu_headers::rsr::stream_key` meets its contract. Assumes nothing.
use mathlib.Core.Path.{sym, ◌∙◌}
use Rattle.sfdu.proofs.Handed.{ok-some, ok-none}
use Rattle.sfdu_headers.proofs.Streams.{bytes-wrong, date-wrong, date-right}
use Rattle.sfdu_headers.proofs.rsr.stream_key.Goals as goal

pub returns-in_err-ok : goal.returns-in_err-ok
returns-in_err-ok c =
    let wrong = ok-none _ (sym c.ok.ensures.value ∙ c.in_err-ok.was) in
    c.from_residual.ensures ∙ sym (bytes-wrong _ _ (sym c.judge_bytes.ensures ∙ wrong.1))

pub returns-in_err-ok-2 : goal.returns-in_err-ok-2
returns-in_err-ok-2 c =
    let right = ok-some _ _ (sym c.ok.ensures.value ∙ c.in_ok-ok.was) in
    let wrong = ok-none _ (sym c.ok-2.ensures.value ∙ c.in_err-ok-2.was) in
    c.from_residual-in_err-ok-2.ensures
    ∙ sym (date-wrong _ _ _ (sym c.judge_bytes.ensures ∙ right) (sym c.read_date.ensures ∙ wrong.1))

pub returns : goal.returns
returns c =
    let right = ok-some _ _ (sym c.ok.ensures.value ∙ c.in_ok-ok.was) in
    let date = ok-some _ _ (sym c.ok-2.ensures.value ∙ c.in_ok-ok-2.was) in
    rw c.rsr_key_of.ensures (sym (date-right _ _ _ (sym c.judge_bytes.ensures ∙ right) (sym c.read_date.ensures ∙ date)))
