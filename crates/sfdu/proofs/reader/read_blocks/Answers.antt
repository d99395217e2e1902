-- `sfdu::reader::read_blocks` meets its contract. Assumes nothing.
use mathlib.Core.Path.{sym, ap, ◌∙◌}
use Rattle.refusals.specs.declared.Refusal.TheVariants.{AggregationLabel, PrimaryLabel, SecondaryLabel}
use Rattle.sfdu.specs.Read.{words_of}
use Rattle.sfdu.proofs.Handed.{handed-on}
use Rattle.sfdu.proofs.Labels.{label-right, label-wrong}
use Rattle.sfdu.proofs.reader.read_blocks.Goals as goal

pub returns-in_err-judge_aggregation : goal.returns-in_err-judge_aggregation
returns-in_err-judge_aggregation c =
    let s = c.args.s.now in
    ap words_of (handed-on _ c.from_residual.ensures.1)
    ∙ sym (label-wrong AggregationLabel s _ _ _ _ _ _ (sym c.judge_aggregation.ensures ∙ c.in_err-judge_aggregation.was))

pub returns-in_err-judge_primary : goal.returns-in_err-judge_primary
returns-in_err-judge_primary c =
    let s = c.args.s.now in
    ap words_of (handed-on _ c.from_residual-in_err-judge_primary.ensures.1)
    ∙ sym (label-right AggregationLabel s _ _ _ _ _ _ (sym c.judge_aggregation.ensures ∙ c.in_ok-judge_aggregation.was)
    ∙ label-wrong PrimaryLabel s _ _ _ _ _ _ (sym c.judge_primary.ensures ∙ c.in_err-judge_primary.was))

pub returns-in_err-judge_secondary : goal.returns-in_err-judge_secondary
returns-in_err-judge_secondary c =
    let s = c.args.s.now in
    ap words_of (handed-on _ c.from_residual-in_err-judge_secondary.ensures.1)
    ∙ sym (label-right AggregationLabel s _ _ _ _ _ _ (sym c.judge_aggregation.ensures ∙ c.in_ok-judge_aggregation.was)
    ∙ label-right PrimaryLabel s _ _ _ _ _ _ (sym c.judge_primary.ensures ∙ c.in_ok-judge_primary.was)
    ∙ label-wrong SecondaryLabel s _ _ _ _ _ _ (sym c.judge_secondary.ensures ∙ c.in_err-judge_secondary.was))

pub returns : goal.returns
returns c =
    let s = c.args.s.now in
    c.read_data.ensures
    ∙ sym (label-right AggregationLabel s _ _ _ _ _ _ (sym c.judge_aggregation.ensures ∙ c.in_ok-judge_aggregation.was)
    ∙ label-right PrimaryLabel s _ _ _ _ _ _ (sym c.judge_primary.ensures ∙ c.in_ok-judge_primary.was)
    ∙ label-right SecondaryLabel s _ _ _ _ _ _ (sym c.judge_secondary.ensures ∙ c.in_ok-judge_secondary.was))
