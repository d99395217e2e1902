-- Different answers have different words. Assumes nothing.
use mathlib.Core.Path.{◌≡◌}
use Rattle.refusals.specs.Words.{Different}
use Rattle.refusals.proofs.Words.{results-differ}
use Rattle.sfdu.specs.Read.{refusal_words}
use Rattle.sfdu.proofs.Words.{same-refusal, refusals-refuse}
use Rattle.sfdu_headers.specs.RsrRecord.{values_of, DifferentRsr}

same-values : Different values_of
same-values a b e =
    let size : a.size ≡ b.size = cc in
    let mission : a.mission ≡ b.mission = cc in
    let day-count : a.day_count ≡ b.day_count = cc in
    λ i. record { size = size i; mission = mission i; day_count = day-count i }

pub same-rsr : DifferentRsr
same-rsr = results-differ refusal_words values_of refusals-refuse same-refusal same-values
