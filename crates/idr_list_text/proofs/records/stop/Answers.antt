-- `idr_list_text::records::stop` meets its contract: nothing at the end, else the reader's refusal. Assumes nothing.
use mathlib.Core.Path.{sym, ◌∙◌}
use Rattle.idr_list_text.specs.Listing.{stop_number}
use Rattle.idr_list_text.proofs.records.stop.Goals as goal

pub returns-then-is_empty : goal.returns-then-is_empty
unfolding stop_number
returns-then-is_empty c = rw (sym c.is_empty.ensures ∙ c.if-is_empty.true)

pub returns : goal.returns
unfolding stop_number
returns c = rw (sym c.is_empty.ensures ∙ c.if-is_empty.false) c.requires
