-- `sfdu_headers::telemetry::stream_key` meets its contract. Assumes nothing.
use mathlib.Core.Path.{sym, ◌∙◌}
use Rattle.sfdu.specs.declared.Kind.TheVariants.{Telemetry}
use Rattle.sfdu.proofs.Handed.{ok-some, ok-none}
use Rattle.sfdu_headers.proofs.Streams.{key_right_lem, key-wrong, spacecraft-low}
use Rattle.sfdu_headers.proofs.telemetry.stream_key.Goals as goal

pub returns-in_err-ok : goal.returns-in_err-ok
returns-in_err-ok c =
    let wrong = ok-none _ (sym c.ok.ensures.value ∙ c.in_err-ok.was) in
    c.from_residual.ensures ∙ sym (key-wrong Telemetry _ _ (sym c.judge_band.ensures ∙ wrong.1))

pub telemetry_key_of-requires : goal.telemetry_key_of-requires
telemetry_key_of-requires c =
    rw c.spacecraft.ensures (spacecraft-low c.args.s.now c.shared_slice_known-1.given)

pub returns : goal.returns
returns c =
    let right = ok-some _ _ (sym c.ok.ensures.value ∙ c.in_ok-ok.was) in
    rw (c.telemetry_key_of.ensures, c.spacecraft.ensures, c.read_u16-equipment.ensures)
    (sym (key_right_lem Telemetry _ _ (sym c.judge_band.ensures ∙ right)))
