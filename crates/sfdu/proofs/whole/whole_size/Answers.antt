-- `sfdu::whole::whole_size` meets its contract. The code tests the rules in the order of the definition. Assumes nothing.
use mathlib.Core.Path.{sym, ◌∙◌}
use borrow.Author.Tests.{lt-ltb, le-ltb}
use Rattle.laws.proofs.Bools.{failed, passed}
use Rattle.refusals.specs.Judge.{judge}
use Rattle.sfdu.specs.declared.Kind.TheVariants.{Telemetry, Rsr}
use Rattle.sfdu.specs.Read.{kind_of, accepts}
use Rattle.sfdu.specs.inner.Checked.{whole_size}
use Rattle.sfdu.proofs.Labelled.{labelled, no_kind, whole-as, whole-unknown}
use Rattle.sfdu.proofs.whole.whole_size.Goals as goal

pub returns-then-s-lt-LABEL : goal.returns-then-s-lt-LABEL
unfolding whole_size accepts judge kind_of
returns-then-s-lt-LABEL c = rw (lt-ltb _ _ c.if-s-lt-LABEL.true)

pub returns-then-not-has_tag : goal.returns-then-not-has_tag
unfolding whole_size accepts judge kind_of
returns-then-not-has_tag c =
    rw (le-ltb _ _ c.if-s-lt-LABEL.false, failed c.has_tag.ensures c.if-not-has_tag.true-raw)

pub returns-then-not-has_tag-2 : goal.returns-then-not-has_tag-2
unfolding whole_size accepts judge kind_of
returns-then-not-has_tag-2 c =
    rw (
      le-ltb _ _ c.if-s-lt-LABEL.false,
      passed c.has_tag.ensures c.if-not-has_tag.false-raw,
      failed c.has_tag-2.ensures c.if-not-has_tag-2.true-raw,
    )

pub returns-then-tag-eq-TELEMETRY_TAG : goal.returns-then-tag-eq-TELEMETRY_TAG
returns-then-tag-eq-TELEMETRY_TAG c =
    let label = labelled _ c.shared_slice_known-1.given c.if-s-lt-LABEL.false c.has_tag.ensures c.if-not-has_tag.false-raw
    c.has_tag-2.ensures c.if-not-has_tag-2.false-raw in
    c.size_as.ensures ∙ sym (whole-as _ label Telemetry (sym c.read_u32-tag.ensures ∙ c.if-tag-eq-TELEMETRY_TAG.true))

pub returns-then-tag-eq-RSR_TAG : goal.returns-then-tag-eq-RSR_TAG
returns-then-tag-eq-RSR_TAG c =
    let label = labelled _ c.shared_slice_known-1.given c.if-s-lt-LABEL.false c.has_tag.ensures c.if-not-has_tag.false-raw
    c.has_tag-2.ensures c.if-not-has_tag-2.false-raw in
    c.size_as-then-tag-eq-RSR_TAG.ensures ∙ sym (whole-as _ label Rsr (sym c.read_u32-tag.ensures ∙ c.if-tag-eq-RSR_TAG.true))

pub returns : goal.returns
returns c =
    let label = labelled _ c.shared_slice_known-1.given c.if-s-lt-LABEL.false c.has_tag.ensures c.if-not-has_tag.false-raw
    c.has_tag-2.ensures c.if-not-has_tag-2.false-raw in
    sym (whole-unknown _ label (no_kind _ (λ e. c.if-tag-eq-TELEMETRY_TAG.false (c.read_u32-tag.ensures ∙
    e)) (λ e. c.if-tag-eq-RSR_TAG.false (c.read_u32-tag.ensures ∙ e))))
