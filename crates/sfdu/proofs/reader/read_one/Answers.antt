-- `sfdu::reader::read_one` meets its contract. The code tests the rules in the order of the definition. Assumes nothing.
use mathlib.Core.Path.{sym, ◌∙◌}
use borrow.Author.Tests.{lt-ltb, le-ltb}
use Rattle.laws.proofs.Bools.{failed, passed}
use Rattle.refusals.specs.Judge.{judge}
use Rattle.sfdu.specs.declared.Kind.TheVariants.{Telemetry, Rsr}
use Rattle.sfdu.specs.Read.{read_one}
use Rattle.sfdu.proofs.Labelled.{labelled, no_kind, read_as, read-unknown}
use Rattle.sfdu.proofs.reader.read_one.Goals as goal

pub returns-then-s-lt-LABEL : goal.returns-then-s-lt-LABEL
unfolding read_one judge
returns-then-s-lt-LABEL c = rw (lt-ltb _ _ c.if-s-lt-LABEL.true) c.refused.ensures

pub returns-then-not-has_tag : goal.returns-then-not-has_tag
unfolding read_one judge
returns-then-not-has_tag c =
    rw (le-ltb _ _ c.if-s-lt-LABEL.false, failed c.has_tag.ensures c.if-not-has_tag.true-raw) c.refused-then-not-has_tag.ensures

pub returns-then-not-has_tag-2 : goal.returns-then-not-has_tag-2
unfolding read_one judge
returns-then-not-has_tag-2 c =
    rw (
      le-ltb _ _ c.if-s-lt-LABEL.false,
      passed c.has_tag.ensures c.if-not-has_tag.false-raw,
      failed c.has_tag-2.ensures c.if-not-has_tag-2.true-raw,
    )
    c.refused-then-not-has_tag-2.ensures

pub returns-then-tag-eq-TELEMETRY_TAG : goal.returns-then-tag-eq-TELEMETRY_TAG
returns-then-tag-eq-TELEMETRY_TAG c =
    let label = labelled _ c.shared_slice_known-1.given c.if-s-lt-LABEL.false c.has_tag.ensures c.if-not-has_tag.false-raw
    c.has_tag-2.ensures c.if-not-has_tag-2.false-raw in
    c.read_length.ensures ∙ sym (read_as _ label Telemetry (sym c.read_u32-tag.ensures ∙ c.if-tag-eq-TELEMETRY_TAG.true))

pub returns-then-tag-eq-RSR_TAG : goal.returns-then-tag-eq-RSR_TAG
returns-then-tag-eq-RSR_TAG c =
    let label = labelled _ c.shared_slice_known-1.given c.if-s-lt-LABEL.false c.has_tag.ensures c.if-not-has_tag.false-raw
    c.has_tag-2.ensures c.if-not-has_tag-2.false-raw in
    c.read_length-then-tag-eq-RSR_TAG.ensures ∙ sym (read_as _ label Rsr (sym c.read_u32-tag.ensures ∙ c.if-tag-eq-RSR_TAG.true))

pub returns : goal.returns
returns c =
    let label = labelled _ c.shared_slice_known-1.given c.if-s-lt-LABEL.false c.has_tag.ensures c.if-not-has_tag.false-raw
    c.has_tag-2.ensures c.if-not-has_tag-2.false-raw in
    c.refused-2.ensures
    ∙ sym (read-unknown _ label (no_kind _ (λ e. c.if-tag-eq-TELEMETRY_TAG.false (c.read_u32-tag.ensures ∙
    e)) (λ e. c.if-tag-eq-RSR_TAG.false (c.read_u32-tag.ensures ∙ e))))
