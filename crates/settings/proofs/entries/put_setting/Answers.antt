-- `entries::put_setting` meets its contract. Assumes nothing.
use Rattle.settings.proofs.entries.put_setting.Goals as goal

pub returns : goal.returns
returns c =
    rw (c.write_header.ensures, c.write_setting.ensures)
