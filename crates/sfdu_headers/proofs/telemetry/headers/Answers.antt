-- `sfdu_headers::telemetry::headers` meets its contract. Assumes nothing.
use mathlib.Core.Path.{sym, ap, ◌∙◌}
use Rattle.sfdu.specs.declared.Kind.TheVariants.{Telemetry}
use Rattle.sfdu.specs.Read.{primary_words}
use Rattle.sfdu.proofs.Handed.{handed-on}
use Rattle.sfdu_headers.specs.Headers.{telemetry_words, telemetry_field_words, received_words}
use Rattle.sfdu_headers.specs.inner.Found.{found_words}
use Rattle.sfdu_headers.proofs.Accept.{same-accepted, telemetry-key, received-parts}
use Rattle.sfdu_headers.proofs.Judged.{field-refused, fields-accepted}
use Rattle.sfdu_headers.proofs.Keys.{spacecraft-fits}
use Rattle.sfdu_headers.proofs.telemetry.headers.Goals as goal

pub returns-in_err-judge_band : goal.returns-in_err-judge_band
returns-in_err-judge_band c =
    ap (found_words telemetry_words) (handed-on _ c.from_residual.ensures.1)
    ∙ field-refused Telemetry _ _ (sym c.judge_band.ensures ∙ c.in_err-judge_band.was)

pub telemetry_key_of-key-requires : goal.telemetry_key_of-key-requires
telemetry_key_of-key-requires c =
    spacecraft-fits c.args.s.now c.read_fields-fields.result c.shared_slice_known-1.given c.read_fields-fields.ensures

pub returns : goal.returns
returns c =
    let s = c.args.s.now in
    let fields = c.read_fields-fields.result in
    let key = telemetry-key s fields _ c.read_fields-fields.ensures c.telemetry_key_of-key.ensures in
    let parts = c.split-received.ensures ∙ received-parts s fields c.shared_slice_known-1.given c.read_fields-fields.ensures in
    same-accepted Telemetry _ _ (primary_words c.args.primary) _ (telemetry_field_words fields) _ _ _
    (received_words c.split-received.result) _ c.requires.0 c.requires.1 c.read_fields-fields.ensures key parts
    ∙ fields-accepted Telemetry s _ (sym c.judge_band.ensures ∙ c.in_ok-judge_band.was)
