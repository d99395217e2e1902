-- Different answers have different words. Assumes nothing.
use Prim.Native.Nat.{ℕ}
use mathlib.Core.Path.{◌≡◌, refl, ap, ◌∙◌}
use Rattle.std.specs.Prelude.{Result, Ok, Err, Some, None}
use Rattle.refusals.specs.declared.Refusal.{Refusal}
use Rattle.refusals.specs.Words.{Different}
use Rattle.refusals.proofs.Laws.{number-injective, number-positive}
use Rattle.refusals.proofs.Words.{answers-differ}
use Rattle.ledger_replay.specs.declared.Difference.{Difference}
use Rattle.ledger_replay.specs.Replay.{answered_words, difference_words, DifferentReplays}

answered-differ : Different answered_words
answered-differ (Ok row) (Ok row') e = cc
answered-differ (Ok row) (Err r) e = absurd (number-positive r (cc))
answered-differ (Err r) (Ok row) e = absurd (number-positive r (cc))
answered-differ (Err r) (Err q) e = ap Err (number-injective r q (cc))

difference_of : ℕ → Result ℕ Refusal → Difference
difference_of entry answer = record { entry = entry; answer = answer }

differences-differ : Different difference_words
unfolding difference_of
differences-differ None None e = refl
differences-differ None (Some d) e = cc
differences-differ (Some d) None e = cc
differences-differ (Some d) (Some f) e =
    let entry : d.entry ≡ f.entry = cc in
    let words : answered_words d.answer ≡ answered_words f.answer = cc in
    ap Some (ap (λ k. difference_of k d.answer) entry ∙ ap (difference_of f.entry) (answered-differ d.answer f.answer words))

pub same-replay : DifferentReplays
same-replay = answers-differ difference_words differences-differ
