-- The listing of a whole tape (document 02, Req 04). Assumes nothing.
-- The manual, docs/INTERFACE.md: "Medium band tapes".
use Rattle.std.specs.Prelude.{ℕ, zero, suc, ◌+◌, cond, List, [], ◌++◌, length, take, drop, eqb}
use Rattle.refusals.specs.Judge.{verdict}
use Rattle.idr.specs.Words.{record_size, header}
use Rattle.idr.specs.Read.{read_rules, accepts}
use Rattle.idr_list_text.specs.Text.{line, last_line}

-- ---- what stands at a place: r is a whole record, or less at the tape's end

-- The stop number: 0 at the tape's end, else the refusal of the record there.
unfoldable pub stop_number : List ℕ → ℕ
stop_number r = cond (eqb (length r) 0) 0 (verdict (read_rules r))

-- The line of a record that the reader accepts; else the last line.
unfoldable pub line_of : (place : ℕ) → List ℕ → List ℕ
line_of place r = cond (accepts r) (line place (header r)) (last_line place (stop_number r))

-- ---- a tape

-- The lines from a place on; s is the tape from there on. One line for each accepted record, up to the first that is not accepted or to the tape's
-- end. `most` bounds how many.
unfoldable pub lines_in : (most : ℕ) → (place : ℕ) → List ℕ → List ℕ
lines_in zero place s = []
lines_in (suc most) place s =
    line_of place (take record_size s) ++ cond (accepts (take record_size s)) (lines_in most (place + record_size) (drop record_size s)) []

-- The lines from a place on. There are fewer records than bytes, and one last line.
unfoldable pub lines_from : (place : ℕ) → List ℕ → List ℕ
lines_from place s = lines_in (suc (length s)) place s
