-- `sfdu_headers::call::read_headers` meets its contract. Assumes nothing.
use mathlib.Core.Path.{◌≡◌, ap, sym, ◌∙◌}
use Rattle.refusals.specs.Table.{number_of}
use Rattle.sfdu.specs.declared.Kind.{Kind}
use Rattle.sfdu.specs.declared.Kind.TheVariants.{Telemetry, Rsr}
use Rattle.sfdu.specs.Nesting.{kind_number}
use Rattle.sfdu.specs.Read.{primary_words}
use Rattle.sfdu.specs.Read as Read
use Rattle.sfdu.proofs.Accepted.{Found, record-found}
use Rattle.sfdu.proofs.Handed.{handed-on}
use Rattle.sfdu_headers.specs.Headers.{words_of}
use Rattle.sfdu_headers.proofs.Reading.{refused-first, wrong-kind, Arm, arm_is}
use Rattle.sfdu_headers.proofs.call.read_headers.Goals as goal
use Rattle.sfdu_headers.proofs.call.read_headers.Goals.{In_ok-found, Else-wanted-from}

pub returns-in_err-found : goal.returns-in_err-found
returns-in_err-found c =
    let s = c.args.s.now in
    let f = c.in_err-found.field-0.0 in
    ap words_of (handed-on _ c.from_residual.ensures.1)
    ∙ sym (refused-first _ s (number_of f.refusal) f.at (sym c.read_one.ensures ∙ ap Read.words_of c.in_err-found.was))

-- Where read one answers a record: what is known of it.
found : (c : In_ok-found) → let r = c.in_ok-found.found in Found c.args.s.now r.kind r.size (primary_words r.primary)
found c = record-found _ c.in_ok-found.was c.read_one.ensures

pub returns-then-wanted-from : goal.returns-then-wanted-from
returns-then-wanted-from c =
    let f = found (goal.at.returns-then-wanted-from c).In_ok-found in
    sym (wrong-kind _ _ f.accepted (λ e. c.if-wanted-from.true (e ∙ sym (c.from.ensures ∙ ap kind_number f.kind))))

-- Where the record is of the wanted kind k: what the kind's call asks, and that it answers for the whole call.
arm : (c : Else-wanted-from) (k : Kind) → c.in_ok-found.found.kind ≡ k →
    let a = c.args in
    let r = c.in_ok-found.found in
    Arm a.wanted a.s.now k r.size (primary_words r.primary)
arm c k e = arm_is _ (found (goal.at.Else-wanted-from c).In_ok-found) k e (c.if-wanted-from.false ∙ c.from.ensures)

pub headers-requires : goal.headers-requires
headers-requires c = let a = arm (goal.at.headers-requires c).Else-wanted-from Telemetry c.in-Telemetry.is in (a.size_is, a.primary-is, a.room)

pub returns-in_err-headers-in-Telemetry : goal.returns-in_err-headers-in-Telemetry
returns-in_err-headers-in-Telemetry c =
    let a = arm (goal.at.returns-in_err-headers-in-Telemetry c).Else-wanted-from Telemetry c.in-Telemetry.is in
    ap words_of (handed-on _ c.from_residual-in_err-headers-in-Telemetry.ensures.1) ∙ c.in_err-headers-in-Telemetry.ensures ∙ a.reads

pub returns-in-Telemetry : goal.returns-in-Telemetry
returns-in-Telemetry c =
    c.in_ok-headers-in-Telemetry.ensures ∙ (arm (goal.at.returns-in-Telemetry c).Else-wanted-from Telemetry c.in-Telemetry.is).reads

pub headers-requires-in-Rsr : goal.headers-requires-in-Rsr
headers-requires-in-Rsr c = let a = arm (goal.at.headers-requires-in-Rsr c).Else-wanted-from Rsr c.in-Rsr.is in (a.size_is, a.primary-is, a.room)

pub returns-in_err-headers-in-Rsr : goal.returns-in_err-headers-in-Rsr
returns-in_err-headers-in-Rsr c =
    let a = arm (goal.at.returns-in_err-headers-in-Rsr c).Else-wanted-from Rsr c.in-Rsr.is in
    ap words_of (handed-on _ c.from_residual-in_err-headers-in-Rsr.ensures.1) ∙ c.in_err-headers-in-Rsr.ensures ∙ a.reads

pub returns-in-Rsr : goal.returns-in-Rsr
returns-in-Rsr c = c.in_ok-headers-in-Rsr.ensures ∙ (arm (goal.at.returns-in-Rsr c).Else-wanted-from Rsr c.in-Rsr.is).reads
