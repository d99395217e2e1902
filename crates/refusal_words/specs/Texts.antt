-- The text of each number of the refusal table, in ASCII. Written by crates/refusals/table. Assumes nothing.
-- The manual, docs/INTERFACE.md: "The refusal table".
use Rattle.std.specs.Prelude.{ℕ, List, [], ◌∷◌, get_or}
use Rattle.octets.specs.Ascii.{ascii}

abbrev pub unknown : List ℕ
unknown = ascii "no refusal has this number"

abbrev pub text1 : List ℕ
text1 = ascii "under 20 bytes: no label"

abbrev pub text2 : List ℕ
text2 = ascii "bytes 0 to 3 are not NJPL"

abbrev pub text3 : List ℕ
text3 = ascii "bytes 4 to 7 are not 2I00"

abbrev pub text4 : List ℕ
text4 = ascii "bytes 8 to 11 name no kind that is read here"

abbrev pub text5 : List ℕ
text5 = ascii "the label's length is not one that the kind can have"

abbrev pub text6 : List ℕ
text6 = ascii "fewer bytes are there than the label says"

abbrev pub text7 : List ℕ
text7 = ascii "the aggregation block's type or length is wrong"

abbrev pub text8 : List ℕ
text8 = ascii "the primary block's type or length is wrong"

abbrev pub text9 : List ℕ
text9 = ascii "the secondary block's type or length is wrong"

abbrev pub text10 : List ℕ
text10 = ascii "the data block's type is not 10"

abbrev pub text11 : List ℕ
text11 = ascii "the data block's length is not what the label leaves"

abbrev pub text12 : List ℕ
text12 = ascii "a field is out of its range"

abbrev pub text13 : List ℕ
text13 = ascii "the slice to write into is shorter than the record"

abbrev pub text14 : List ℕ
text14 = ascii "the kind, the secondary value's length or the data's length is none that a record has"

abbrev pub text15 : List ℕ
text15 = ascii "the record is not of the kind asked for, or that is neither 1 nor 2"

abbrev pub text16 : List ℕ
text16 = ascii "a whole record stands at the stop place, and no entry is free"

abbrev pub text17 : List ℕ
text17 = ascii "the record is over 65,536 bytes, more than the program's buffer"

abbrev pub text19 : List ℕ
text19 = ascii "the sample size and rate are not a listed pair"

abbrev pub text20 : List ℕ
text20 = ascii "not a right ledger sheet"

abbrev pub text21 : List ℕ
text21 = ascii "the desk is not 0 to 7"

abbrev pub text22 : List ℕ
text22 = ascii "the key is not valid, or a number is too wide for its field in a key"

abbrev pub text23 : List ℕ
text23 = ascii "the stream has a row already"

abbrev pub text24 : List ℕ
text24 = ascii "all 32 rows are used"

abbrev pub text25 : List ℕ
text25 = ascii "there is no such row, or none with that key"

abbrev pub text26 : List ℕ
text26 = ascii "the desk has a row open"

abbrev pub text27 : List ℕ
text27 = ascii "the desk has no row open"

abbrev pub text28 : List ℕ
text28 = ascii "the number is in no position of the row"

abbrev pub text29 : List ℕ
text29 = ascii "the number is ticked already"

abbrev pub text30 : List ℕ
text30 = ascii "the number is not ticked"

abbrev pub text31 : List ℕ
text31 = ascii "the row is no longer what the desk opened: another desk saved it since"

abbrev pub text32 : List ℕ
text32 = ascii "the first number is none of the stream's"

abbrev pub text33 : List ℕ
text33 = ascii "the day count is past the last day of 3000"

abbrev pub text34 : List ℕ
text34 = ascii "the samples do not fill whole words of 4 bytes"

abbrev pub text35 : List ℕ
text35 = ascii "the lent list or slice is shorter than what would be written"

abbrev pub text36 : List ℕ
text36 = ascii "a desk has the row open"

abbrev pub text37 : List ℕ
text37 = ascii "a sample is even, or 2^size or more away from zero"

abbrev pub text38 : List ℕ
text38 = ascii "the answer's slice is not 256 bytes: nothing was done or written"

abbrev pub text40 : List ℕ
text40 = ascii "not a trace"

abbrev pub text41 : List ℕ
text41 = ascii "a stream has a row in two sheets of the season"

abbrev pub text42 : List ℕ
text42 = ascii "not a whole number of sheets, or more than 16"

abbrev pub text43 : List ℕ
text43 = ascii "not a right settings sheet"

abbrev pub text44 : List ℕ
text44 = ascii "the edition is neither 1 nor 2"

abbrev pub text45 : List ℕ
text45 = ascii "the mission has a setting from that day"

abbrev pub text46 : List ℕ
text46 = ascii "all 64 places are used"

abbrev pub text47 : List ℕ
text47 = ascii "the mission has no setting that is old enough"

abbrev pub text50 : List ℕ
text50 = ascii "a tape's record is not 5,056 bytes, its words not 28, or its samples not 5,000"

abbrev pub text51 : List ℕ
text51 = ascii "a tape record's length word is not 2528"

abbrev pub text52 : List ℕ
text52 = ascii "a tape record's time tag is no time"

abbrev pub text53 : List ℕ
text53 = ascii "a tape record's rate has a code that is not listed"

abbrev pub text54 : List ℕ
text54 = ascii "a tape record's stored block size is zero or positive"

abbrev pub text60 : List ℕ
text60 = ascii "the lent list is shorter than the row's missing numbers"

abbrev pub text61 : List ℕ
text61 = ascii "the lent slice is too short for the text and its zero byte"

-- Entry n is the text of number n.
unfoldable pub table : List (List ℕ)
table =
    unknown ∷ text1 ∷ text2 ∷ text3 ∷ text4 ∷ text5 ∷ text6 ∷ text7 ∷ text8 ∷ text9 ∷ text10 ∷ text11 ∷ text12 ∷ text13 ∷ text14 ∷ text15 ∷ text16
    ∷ text17 ∷ unknown ∷ text19 ∷ text20 ∷ text21 ∷ text22 ∷ text23 ∷ text24 ∷ text25 ∷ text26 ∷ text27 ∷ text28 ∷ text29 ∷ text30 ∷ text31 ∷ text32
    ∷ text33 ∷ text34 ∷ text35 ∷ text36 ∷ text37 ∷ text38 ∷ unknown ∷ text40 ∷ text41 ∷ text42 ∷ text43 ∷ text44 ∷ text45 ∷ text46 ∷ text47 ∷ unknown
    ∷ unknown ∷ text50 ∷ text51 ∷ text52 ∷ text53 ∷ text54 ∷ unknown ∷ unknown ∷ unknown ∷ unknown ∷ unknown ∷ text60 ∷ text61 ∷ []

unfoldable pub text_of : (number : ℕ) → List ℕ
text_of number = get_or table number unknown
