-- `sfdu_write::write_one` meets its contract. Assumes nothing.
use mathlib.Core.Path.{sym}
use Rattle.sfdu.specs.declared.Kind.TheVariants.{Telemetry, Rsr}
use Rattle.sfdu_write.proofs.Written.{kind-refused}
use Rattle.sfdu_write.proofs.write_one.Goals as goal

pub returns-in_default : goal.returns-in_default
returns-in_default c =
    let no = c.in_default.ensures.1 in
    sym (kind-refused _ _ _ _ _ (λ e. no Telemetry (sym e)) (λ e. no Rsr (sym e)))
