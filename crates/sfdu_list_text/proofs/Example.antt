-- Document 01's example, as request 05 has it: what the program writes for one telemetry record of 120 bytes, number 7.
-- Assumes nothing.
use mathlib.Core.List.{List, [], ◌∷◌, ◌++◌}
use mathlib.Core.Path.{◌≡◌, refl}
use Prim.Native.Nat.{ℕ}
use lib.ListN.{replicate}
use Rattle.sfdu.specs.declared.Kind.TheVariants.{Telemetry}
use Rattle.sfdu_write.specs.Write.{record_bytes, head_bytes, label_bytes, primary_block, block}
use Rattle.sfdu.specs.Read.{kind_of, has_kind, record_length, label_length, length_in_range, block_type, block_length, is_count, in_stream}
use Rattle.octets.specs.Octets.{bytes_of, number_at, same_at, all}
use Rattle.refusals.specs.Judge.{judge}
use Rattle.octets.specs.Ascii.{ascii}
use Rattle.text.specs.Text.{places_in, decimal, numeral}
use Rattle.sfdu_headers.specs.Fields.{record_number}
use Rattle.sfdu_stream.specs.Walk.{whole_by, refusal_by}
use Rattle.sfdu_stream.specs.Listing.{entry_of, listing_by, walk_by}
use Rattle.sfdu_list_text.specs.Text.{heading, line, numbers_line, last_line}
use Rattle.sfdu_list_text.specs.Listing.{lines_of, text_of, lines_from, listing}

-- the record number stands in bytes 22 to 25 of the secondary block, whose value starts at byte 4
abbrev pub example : List ℕ
example = record_bytes Telemetry (record { major = 0; minor = 0; mission = 0; format = 0 }) (replicate 18 0 ++ (0 ∷ 0 ∷ 0 ∷ 7 ∷ []) ++ replicate 58 0) []

pub listed : listing example ≡ heading ++ ascii "0 120 T 7\n120 0 0\n"
unfolding record_bytes head_bytes label_bytes primary_block block bytes_of kind_of has_kind record_length label_length length_in_range block_type
    block_length is_count in_stream number_at same_at all judge record_number places_in decimal numeral heading line numbers_line last_line whole_by
    refusal_by entry_of listing_by walk_by lines_of text_of lines_from listing
listed = refl
