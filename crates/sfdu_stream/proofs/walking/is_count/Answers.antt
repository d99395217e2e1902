-- `sfdu_stream::walking::is_count` meets its contract. Assumes nothing.
use mathlib.Core.Bool.{true}
use mathlib.Core.Logic.{◌⊎◌, inl, inr}
use mathlib.Core.Path.{◌≡◌}
use borrow.Author.Tests.{ne_eqb}
use Rattle.refusals.specs.declared.Refusal.TheVariants.{TooShort, Truncated}
use Rattle.refusals.specs.Table.{number_of}
use Rattle.refusals.proofs.Laws.{number-injective}
use Rattle.sfdu.specs.Read.{is_count}
use Rattle.sfdu_stream.proofs.walking.is_count.Goals as goal

pub returns-in-TooShort : goal.returns-in-TooShort
unfolding is_count
returns-in-TooShort c = by c.in-TooShort.is
  where
    by : (c.args.refusal ≡ TooShort) ⊎ (c.args.refusal ≡ Truncated) → true ≡ is_count (number_of c.args.refusal)
    by (inl e) = rw e
    by (inr e) = rw e

pub returns-in_default : goal.returns-in_default
unfolding is_count
returns-in_default c =
    rw (
      ne_eqb _ 1 (λ e. c.in_default.not-TooShort (number-injective _ TooShort e)),
      ne_eqb _ 6 (λ e. c.in_default.not-Truncated (number-injective _ Truncated e)),
    )
