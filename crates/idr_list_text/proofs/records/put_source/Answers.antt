-- `idr_list_text::records::put_source` meets its contract: the words of an accepted record are its header's. Assumes nothing.
use mathlib.Core.Path.{refl, subst}
use Rattle.text.specs.Text.{Puts}
use Rattle.idr_list_text.proofs.Found.{words-there, origin-there}
use Rattle.idr_list_text.proofs.records.put_source.Goals as goal

pub returns : goal.returns
returns c =
    let w = words-there c.args.r.now _ _ _ c.requires.1 refl c.read_words.ensures in
    let same = origin-there c.args.place c.args.r.now _ (λ i. c.shared_slice_known-1.given i) w in
    let text = c.put_origin.ensures in
    record { puts = subst (Puts _ _ _ _) same text.puts; upper_bound = text.upper_bound }
