-- `sfdu_headers::rsr_record::read_rsr` meets its contract. Assumes nothing.
use Prim.Native.Nat.{ℕ}
use mathlib.Core.Path.{◌≡◌, sym, ap, ◌∙◌}
use Rattle.std.specs.Prelude.{Ok}
use Rattle.sfdu.specs.declared.Kind.TheVariants.{Rsr}
use Rattle.sfdu.specs.Nesting.{kind_number}
use Rattle.sfdu.proofs.Handed.{handed-on}
use Rattle.sfdu_headers.specs.declared.Headers.{Headers}
use Rattle.sfdu_headers.specs.Headers.{words_of, read_headers}
use Rattle.sfdu_headers.specs.RsrRecord as RsrRecord
use Rattle.sfdu_headers.proofs.RsrRules.{rsr-headers, telemetry-headers, refusal-words}
use Rattle.sfdu_headers.proofs.rsr_record.read_rsr.Goals as goal
use Rattle.sfdu_headers.proofs.rsr_record.read_rsr.Goals.{After-read_headers}

-- The kind that is wanted.
answered : (c : After-read_headers) → words_of c.read_headers.result ≡ read_headers (kind_number Rsr) c.args.s.now
answered c = c.read_headers.ensures ∙ ap (λ (n : ℕ). read_headers n c.args.s.now) c.from.ensures

pub returns-in_err-found : goal.returns-in_err-found
returns-in_err-found c =
    ap RsrRecord.words_of (handed-on _ c.from_residual.ensures.1)
    ∙ refusal-words _ _ (sym (ap words_of c.in_err-found.was) ∙ answered (goal.at.returns-in_err-found c).After-read_headers)

pub returns-in-Rsr : goal.returns-in-Rsr
returns-in-Rsr c =
    let found = ap words_of (c.in_ok-found.was ∙ ap (λ (x : Headers). Ok x) c.in-Rsr.is) in
    rsr-headers _ c.in-Rsr.headers (sym found ∙ answered (goal.at.returns-in-Rsr c).After-read_headers)

pub returns-in-Telemetry : goal.returns-in-Telemetry
returns-in-Telemetry c =
    let found = ap words_of (c.in_ok-found.was ∙ ap (λ (x : Headers). Ok x) c.in-Telemetry.is) in
    absurd (telemetry-headers _ c.in-Telemetry.field-0 (sym found ∙ answered (goal.at.returns-in-Telemetry c).After-read_headers))
