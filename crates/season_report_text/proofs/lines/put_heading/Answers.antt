-- `put_heading` meets its contract: the first line is `heading`. Assumes nothing.
use Rattle.season_report_text.specs.Page.{heading}
use borrow.Author.Rules.{rules}
use Rattle.season_report_text.proofs.lines.put_heading.Goals as goal

pub put_text-requires : goal.put_text-requires
unfolding heading
put_text-requires c = search rules

pub returns : goal.returns
unfolding heading
returns c = c.put_text.ensures
