-- `entries::is_later` meets its contract. Assumes nothing.
use mathlib.Core.Path.{sym, ap}
use Rattle.std.specs.Prelude.{Option}
use Rattle.settings.specs.declared.Setting.{Setting}
use Rattle.settings.specs.Model.{is_later}
use Rattle.settings.proofs.entries.is_later.Goals as goal

pub returns-in-Some : goal.returns-in-Some
returns-in-Some c = sym (ap (λ (b : Option Setting). is_later b c.args.day) c.in-Some.is)
