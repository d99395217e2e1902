-- Different answers have different words. Assumes nothing.
use mathlib.Core.Path.{◌≡◌, refl, ap}
use Rattle.std.specs.Prelude.{Some, None, Ok, Err}
use Rattle.refusals.proofs.Laws.{number-injective, number-positive}
use Rattle.refusals.specs.Table.{number_of}
use Rattle.sfdu.specs.declared.RecordRefusal.{RecordRefusal}
use Rattle.sfdu.specs.declared.RecordRefusal.TheVariants.{Fault as FaultRefusal, Alone}
use Rattle.sfdu.proofs.Words.{same-fault}
use Rattle.sfdu_gain.specs.Gain.{words_of, DifferentGains}

same-refusal : (a b : RecordRefusal) → words_of (Err a) ≡ words_of (Err b) → a ≡ b
same-refusal (FaultRefusal f) (FaultRefusal g) e =
    let n : number_of f.refusal ≡ number_of g.refusal = cc in
    let at : f.at ≡ g.at = cc in
    ap FaultRefusal (same-fault f g (rw (n, at)))
same-refusal (FaultRefusal f) (Alone r) e = cc
same-refusal (Alone r) (FaultRefusal f) e = cc
same-refusal (Alone r) (Alone s) e = ap Alone (number-injective r s (cc))

pub same-gain : DifferentGains
same-gain (Ok (Some n)) (Ok (Some m)) e = cc
same-gain (Ok (Some n)) (Ok None) e = cc
same-gain (Ok None) (Ok (Some m)) e = cc
same-gain (Ok None) (Ok None) e = refl
same-gain (Ok g) (Err (FaultRefusal f)) e = absurd (number-positive f.refusal (cc))
same-gain (Ok g) (Err (Alone r)) e = cc
same-gain (Err (FaultRefusal f)) (Ok g) e = absurd (number-positive f.refusal (cc))
same-gain (Err (Alone r)) (Ok g) e = cc
same-gain (Err a) (Err b) e = ap Err (same-refusal a b e)
