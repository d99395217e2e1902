-- The refusal of the lowest field that is out of range, as the inner functions give it. Assumes nothing.
use Rattle.std.specs.Prelude.{ℕ, List, Result}
use Rattle.sfdu.specs.declared.Kind.{Kind}
use Rattle.refusals.specs.declared.Refusal.TheVariants.{FieldRange}
use Rattle.sfdu.specs.declared.Fault.{Fault}
use Rattle.sfdu.specs.inner.Checked.{checked}
use Rattle.sfdu_headers.specs.Ranges.{field_rules}

unfoldable pub fault : Kind → List ℕ → Result (Unit {0}) Fault
fault k s = checked FieldRange (field_rules k s)
