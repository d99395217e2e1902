-- `sfdu_samples::rates::is_listed` meets its contract. Assumes nothing.
use Rattle.std.proofs.Common.{◌≡◌, ℕ, Bool, ◌&&◌, ◌||◌, List, [], ◌∷◌, eqb, refl, ap, ◌∙◌, rules}
use borrow.Author.Tests.{tests}
use Rattle.std.specs.List.{list_any}
use Rattle.std.proofs.lemmas.Iterator.{YieldsList-from_slice}
use Rattle.std.proofs.lemmas.Iterator.Search.{any_from_yields_List}
use Rattle.sfdu_samples.specs.declared.rates.Listed.{Listed}
use Rattle.sfdu_samples.specs.Rates.{table, among}
use Rattle.sfdu_samples.proofs.rates.is_listed.Goals as goal

-- Whether a row is the pair's.
abbrev is_row : (size rate : ℕ) → Listed → Bool
is_row size rate row = eqb row.size size && eqb row.rate rate

any-among : (size rate : ℕ) (rows : List Listed) → list_any (is_row size rate) rows ≡ among size rate rows
unfolding among
any-among size rate [] = refl
any-among size rate (row ∷ rows) = ap (λ (b : Bool). is_row size rate row || b) (any-among size rate rows)

pub returns : goal.returns
unfolding table
returns c =
    any_from_yields_List (is_row c.args.size c.args.rate) _ _ _ c.any.ensures.ran (YieldsList-from_slice table c.iter.ensures.rest)
    (λ x b q k. search (rules, tests))
    ∙ any-among c.args.size c.args.rate table
