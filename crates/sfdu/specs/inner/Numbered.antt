-- The kind that a number names. Assumes nothing.
use Rattle.std.specs.Prelude.{ℕ, Result, MatchResult, ◌≡◌, ◌≢◌}
use Rattle.sfdu.specs.declared.Kind.{Kind}
use Rattle.sfdu.specs.declared.kinds.UnknownKind.{UnknownKind}
use Rattle.sfdu.specs.Nesting.{kind_number}

-- The result is the kind with this number; or it is an error, and no kind has it.
abbrev pub IsNumbered : ℕ → Result Kind UnknownKind → Type 0
IsNumbered number found =
    MatchResult found (λ kind. kind_number kind ≡ number) (λ e. (e.0 ≡ number) × ((kind : Kind) → kind_number kind ≢ number))
