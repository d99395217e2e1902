-- The two refusals are those of the definition. Assumes nothing.
use mathlib.Core.Logic.{inl, inr}
use borrow.Author.Tests.{ne_eqb}
use Rattle.refusals.specs.declared.Refusal.TheVariants.{TooShort, Truncated}
use Rattle.refusals.proofs.Laws.{number-injective}
use Rattle.sfdu.specs.Read.{is_count}
use Rattle.streaming.proofs.window.is_count.Goals as goal

pub returns-in-TooShort : goal.returns-in-TooShort
unfolding is_count
returns-in-TooShort c = elim c.in-TooShort.is [ inl e ↦ rw e | inr e ↦ rw e ]

pub returns-in_default : goal.returns-in_default
unfolding is_count
returns-in_default c =
    let r = c.args.refusal in
    rw (
      ne_eqb _ _ (λ e. c.in_default.not-TooShort (number-injective r TooShort e)),
      ne_eqb _ _ (λ e. c.in_default.not-Truncated (number-injective r Truncated e)),
    )
