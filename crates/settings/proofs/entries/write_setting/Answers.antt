-- `entries::write_setting` meets its contract. Assumes nothing.
use native.Mathlib.Nat.{add-zero}
use native.Mathlib.Omega.{arith}
use mathlib.Core.Path.{◌∙◌}
use Rattle.settings.specs.Layout.{entry_fields, entry_bytes}
use Rattle.settings.proofs.Fields.{fields-put}
use Rattle.settings.proofs.entries.write_setting.Goals as goal

pub returns : goal.returns
unfolding entry_bytes
returns c =
    let g = c.args in
    let whole = fields-put g.s.now (entry_fields g.x) g.a 0 (omega (arith, c.requires)) in
    rw (c.write_be-5.ensures, c.write_be-4.ensures, c.write_be-3.ensures, c.write_be-2.ensures, c.write_be.ensures) (whole ∙ rw (add-zero g.a))
