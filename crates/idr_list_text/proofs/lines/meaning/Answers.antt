-- `idr_list_text::lines::meaning` meets its contract: a text for each refusal of a tape's record. Assumes nothing.
use borrow.Author.Tests.{ne_eqb}
use Rattle.refusals.specs.declared.Refusal.TheVariants.{TapeLengths, TapeLengthWord, TapeTime, TapeRate}
use Rattle.refusals.proofs.Laws.{number-injective, number-positive}
use Rattle.idr_list_text.specs.Text.{why}
use Rattle.idr_list_text.proofs.lines.meaning.Goals as goal

pub returns-in-TapeLengths-clause-value : goal.returns-in-TapeLengths-clause-value
unfolding why
returns-in-TapeLengths-clause-value c = rw c.in-TapeLengths.is

pub returns-in-TapeLengthWord-clause-value : goal.returns-in-TapeLengthWord-clause-value
unfolding why
returns-in-TapeLengthWord-clause-value c = rw c.in-TapeLengthWord.is

pub returns-in-TapeTime-clause-value : goal.returns-in-TapeTime-clause-value
unfolding why
returns-in-TapeTime-clause-value c = rw c.in-TapeTime.is

pub returns-in-TapeRate-clause-value : goal.returns-in-TapeRate-clause-value
unfolding why
returns-in-TapeRate-clause-value c = rw c.in-TapeRate.is

pub returns-in_default-clause-value : goal.returns-in_default-clause-value
unfolding why
returns-in_default-clause-value c =
    let r = c.args.refusal in
    let other = c.in_default in
    rw (
      ne_eqb _ _ (number-positive r),
      ne_eqb _ _ (λ e. other.not-TapeLengths (number-injective r TapeLengths e)),
      ne_eqb _ _ (λ e. other.not-TapeLengthWord (number-injective r TapeLengthWord e)),
      ne_eqb _ _ (λ e. other.not-TapeTime (number-injective r TapeTime e)),
      ne_eqb _ _ (λ e. other.not-TapeRate (number-injective r TapeRate e)),
    )
