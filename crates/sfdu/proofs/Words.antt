-- Different answers have different words. Assumes nothing.
use mathlib.Core.Path.{◌≡◌, ap}
use Rattle.refusals.specs.Table.{number_of}
use Rattle.refusals.specs.Words.{Different}
use Rattle.refusals.proofs.Words.{Refuses, results-differ, refusals-differ}
use Rattle.refusals.proofs.Laws.{number-injective, number-positive}
use Rattle.sfdu.specs.declared.Primary.{Primary}
use Rattle.sfdu.specs.declared.RecordRefusal.TheVariants.{Fault as FaultRefusal, Alone}
use Rattle.sfdu.specs.Nesting.{kind_number}
use Rattle.sfdu.specs.Read.{fault_words, refusal_words, primary_words, values_of, DifferentReads}
use Rattle.sfdu.proofs.Accepted.{same_kind}

pub same-primary : (p q : Primary) → primary_words p ≡ primary_words q → p ≡ q
same-primary p q e =
    let major : p.major ≡ q.major = cc in
    let minor : p.minor ≡ q.minor = cc in
    let mission : p.mission ≡ q.mission = cc in
    let format : p.format ≡ q.format = cc in
    λ i. record { major = major i; minor = minor i; mission = mission i; format = format i }

pub same-fault : Different fault_words
same-fault f g e =
    let n : number_of f.refusal ≡ number_of g.refusal = cc in
    let at : f.at ≡ g.at = cc in
    let refusal : f.refusal ≡ g.refusal = number-injective _ _ n in
    λ i. record { refusal = refusal i; at = at i }

-- No number of a refusal is 0.
pub faults-refuse : Refuses fault_words
faults-refuse f values e = number-positive f.refusal (cc)

pub same-values : Different values_of
same-values a b e =
    let kinds : kind_number a.kind ≡ kind_number b.kind = cc in
    let words : primary_words a.primary ≡ primary_words b.primary = cc in
    let kind : a.kind ≡ b.kind = same_kind _ _ kinds in
    let primary : a.primary ≡ b.primary = same-primary _ _ words in
    let size : a.size ≡ b.size = cc in
    λ i. record { kind = kind i; size = size i; primary = primary i }

pub same_read : DifferentReads
same_read = results-differ fault_words values_of faults-refuse same-fault same-values

-- The same of the refusals of calls that read a record first.
pub same-refusal : Different refusal_words
same-refusal (FaultRefusal f) (FaultRefusal g) e = ap FaultRefusal (same-fault f g e)
same-refusal (FaultRefusal f) (Alone r) e = cc
same-refusal (Alone r) (FaultRefusal f) e = cc
same-refusal (Alone r) (Alone s) e = ap Alone (refusals-differ r s e)

pub refusals-refuse : Refuses refusal_words
refusals-refuse (FaultRefusal f) values e = faults-refuse f values e
refusals-refuse (Alone r) values e = number-positive r (cc)
