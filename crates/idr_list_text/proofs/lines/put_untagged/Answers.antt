-- `idr_list_text::lines::put_untagged` meets its contract: the five dashes. Assumes nothing.
use Rattle.idr_list_text.specs.Text.{untagged_text}
use borrow.Author.Rules.{rules}
use Rattle.idr_list_text.proofs.lines.put_untagged.Goals as goal

pub put_text-requires : goal.put_text-requires
unfolding untagged_text
put_text-requires c = search rules

pub returns : goal.returns
unfolding untagged_text
returns c = c.put_text.ensures
