-- Why a walk stops at a place of a stream, by the rules of read one. Assumes nothing.
use Rattle.std.specs.Prelude.{ℕ, List, drop}
use Rattle.sfdu.specs.Read.{read_rules}
use Rattle.sfdu_stream.specs.Walk.{refusal_by}

unfoldable pub refusal : List ℕ → ℕ → List ℕ
refusal s at = refusal_by read_rules at (drop at s)
