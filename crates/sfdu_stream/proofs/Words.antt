-- Different answers have different words. Assumes nothing.
use mathlib.Core.Path.{◌≡◌, refl, sym, ap}
use Rattle.std.specs.Prelude.{Some, None, Result, Ok, Err}
use Rattle.refusals.specs.Words.{Different}
use Rattle.refusals.proofs.Laws.{number-positive}
use Rattle.sfdu.specs.declared.Fault.{Fault}
use Rattle.sfdu.specs.Read.{values_of}
use Rattle.sfdu.proofs.Words.{same-values, same-fault, faults-refuse}
use Rattle.sfdu_stream.specs.Walk.{found_words, stop_words, DifferentSteps, DifferentWalks}

same-found : Different found_words
same-found (Ok (Some r)) (Ok (Some o)) e = let words : values_of r ≡ values_of o = cc in ap (λ x. Ok (Some x)) (same-values r o words)
same-found (Ok (Some r)) (Ok None) e = cc
same-found (Ok (Some r)) (Err f) e = absurd (faults-refuse f _ (sym e))
same-found (Ok None) (Ok (Some o)) e = cc
same-found (Ok None) (Ok None) e = refl
same-found (Ok None) (Err f) e = cc
same-found (Err f) (Ok (Some o)) e = absurd (faults-refuse f _ e)
same-found (Err f) (Ok None) e = cc
same-found (Err f) (Err g) e = ap Err (same-fault f g e)

pub same_step : DifferentSteps
same_step a b e =
    let words : found_words a.found ≡ found_words b.found = cc in
    let found = same-found a.found b.found words in
    let places : a.next.at ≡ b.next.at = cc in
    λ j. record { found = found j; next = record { at = places j } }

same_stop : (a b : Result (Unit {0}) Fault) → stop_words a ≡ stop_words b → a ≡ b
same_stop (Ok u) (Ok v) e = refl
same_stop (Ok u) (Err f) e = absurd (number-positive f.refusal (cc))
same_stop (Err f) (Ok v) e = absurd (number-positive f.refusal (cc))
same_stop (Err f) (Err g) e = ap Err (same-fault f g e)

pub same-walked : DifferentWalks
same-walked a b e =
    let count : a.count ≡ b.count = cc in
    let place : a.place ≡ b.place = cc in
    let words : stop_words a.stop ≡ stop_words b.stop = cc in
    let stop : a.stop ≡ b.stop = same_stop a.stop b.stop words in
    λ j. record { count = count j; place = place j; stop = stop j }
