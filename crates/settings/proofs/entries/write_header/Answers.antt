-- `entries::write_header` meets its contract. Assumes nothing.
use Rattle.settings.specs.Layout.{header_fields}
use Rattle.settings.proofs.Fields.{fields-put}
use Rattle.settings.proofs.entries.write_header.Goals as goal

pub returns : goal.returns
returns c =
    let g = c.args in
    rw (c.write_be-4.ensures, c.write_be-3.ensures, c.write_be-2.ensures, c.write_be.ensures)
    (fields-put g.s.now (header_fields g.used) 0 0 c.requires)
