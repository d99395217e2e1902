-- What several writes make of a sheet, one after the other, is what the definitions of `specs/Bytes.antt` say. Assumes nothing.
use Prim.Native.Nat.{ℕ, ◌+◌, ◌-◌, ◌≤◌, ◌<◌}
use native.Mathlib.Omega.{arith}
use mathlib.Core.List.{List, [], ◌∷◌, ◌++◌}
use mathlib.Core.Path.{◌≡◌, refl, ◌∙◌}
use lib.ListN.{length, set, replicate, length-append, length-replicate, length-set}
use Rattle.octets.specs.Octets.{bytes_of, part, put}
use Rattle.octets.proofs.Laws.{length-bytes_of, length_part}
use Rattle.ledger_sheet.specs.Sheet.{used_flag_size, used_flag, key_start, key_size, first_at, first_size, ticks_at, ticks_size, row_size, row_count}
use Rattle.ledger_sheet.specs.Sheet.{rows_start, desk_row_at, desk_zeros_at, desk_zeros_size, opened_at, worked_at, desk_count, desks_start, sheet_size}
use Rattle.ledger_sheet.specs.Sheet.{header_number_size}
use Rattle.ledger_sheet.specs.Sheet.{length_at, used_at, row_count_at, rows_start_at, desk_count_at, desks_start_at, row_at, desk_at, used}
use Rattle.ledger_layout.specs.Rows.{row_bytes}
use Rattle.ledger_layout.specs.Bytes.{header_bytes, fresh_sheet, open_desk}
use Rattle.octets.proofs.Puts.{put_next, set-put, put_whole}
use Rattle.ledger_layout.proofs.Places.{length-header}
use Rattle.ledger_layout.proofs.Puts.{part-before}

-- ---- the header, and a fresh sheet

-- one more number behind those before it
number-then : (s : List ℕ) (v : List ℕ) (x at : ℕ) {t u : List ℕ} → at + header_number_size ≤ length s → length v ≡ at → t ≡ put s 0 v
    → u ≡ put t at (bytes_of header_number_size x)
    → (u ≡ put s 0 (v ++ bytes_of header_number_size x)) × (length (v ++ bytes_of header_number_size x) ≡ at + header_number_size)
number-then s v x at room l p q =
    let n = length-bytes_of header_number_size x in
    (put_next s 0 v at (bytes_of header_number_size x) p q (omega arith) (omega arith), length-append v (bytes_of header_number_size x) ∙ rw (l, n))

module _ (s : List ℕ) (n : ℕ) (room : rows_start ≤ length s) {t1 t2 t3 t4 t5 t6 : List ℕ}
    (p1 : t1 ≡ put s length_at (bytes_of header_number_size sheet_size)) (p2 : t2 ≡ put t1 used_at (bytes_of header_number_size n))
    (p3 : t3 ≡ put t2 row_count_at (bytes_of header_number_size row_count)) (p4 : t4 ≡ put t3 rows_start_at (bytes_of header_number_size rows_start))
    (p5 : t5 ≡ put t4 desk_count_at (bytes_of header_number_size desk_count)) (p6 : t6 ≡ put t5 desks_start_at (bytes_of header_number_size desks_start)) where
  pub header-written : t6 ≡ put s 0 (header_bytes n)
  unfolding header_bytes
  header-written =
      let h1 = length-bytes_of header_number_size sheet_size in
      let h2 = number-then s (bytes_of header_number_size sheet_size) n used_at (omega arith) h1 p1 p2 in
      let h3 = number-then s _ row_count row_count_at (omega arith) h2.1 h2.0 p3 in
      let h4 = number-then s _ rows_start rows_start_at (omega arith) h3.1 h3.0 p4 in
      let h5 = number-then s _ desk_count desk_count_at (omega arith) h4.1 h4.0 p5 in
      (number-then s _ desks_start desks_start_at (omega arith) h5.1 h5.0 p6).0

pub fresh-written : (s : List ℕ) {t u : List ℕ} → length s ≡ sheet_size → t ≡ put s 0 (header_bytes 0)
    → u ≡ put t rows_start (replicate (sheet_size - rows_start) 0) → u ≡ fresh_sheet
unfolding fresh_sheet
fresh-written s l p q =
    let h = length-header 0 in
    let zeros : List ℕ = replicate (sheet_size - rows_start) 0 in
    let z = length-replicate {A = ℕ} (sheet_size - rows_start) 0 in
    put_next s 0 (header_bytes 0) rows_start zeros p q (omega arith) (omega arith)
    ∙ put_whole s (header_bytes 0 ++ zeros) (omega (arith, length-append (header_bytes 0) zeros))

-- ---- a row

pub row_written : (s : List ℕ) (a key first : ℕ) (ticks : List ℕ) {t u v w : List ℕ} → a + row_size ≤ length s → length ticks ≡ ticks_size
    → t ≡ put s a (bytes_of used_flag_size used_flag) → u ≡ put t (a + key_start) (bytes_of key_size key) → v ≡ put u (a + first_at) (bytes_of first_size first)
    → w ≡ put v (a + ticks_at) ticks → w ≡ put s a (row_bytes key first ticks)
unfolding row_bytes
row_written s a key first ticks room lt o p q r =
    let flag = bytes_of used_flag_size used_flag in
    let n = length-bytes_of used_flag_size used_flag in
    let k = length-bytes_of key_size key in
    let f = length-bytes_of first_size first in
    let one = put_next s a flag (a + key_start) (bytes_of key_size key) o p (omega arith) (omega arith) in
    let two = put_next s a (flag ++ bytes_of key_size key) (a + first_at) (bytes_of first_size first) one q (rw (length-append, n, k)) (omega arith) in
    put_next s a (flag ++ bytes_of key_size key ++ bytes_of first_size first) (a + ticks_at) ticks two r
    (simp (length-append, n, k, f)) (omega arith)

-- ---- an open desk

-- its mark, its row and two zeros, and then its two copies, one behind the other
module _ (s : List ℕ) (d row : ℕ) (long : length s ≡ sheet_size) (desk : d < desk_count) {t : List ℕ}
    (p : t ≡ put (set (set s (desk_at d) 1) (desk_at d + desk_row_at) row) (desk_at d + desk_zeros_at) (replicate desk_zeros_size 0)) where
  begun-written : t ≡ put s (desk_at d) (1 ∷ row ∷ 0 ∷ 0 ∷ [])
  begun-written =
      let a = desk_at d in
      let two : set (set s a 1) (a + desk_row_at) row ≡ put s a (1 ∷ row ∷ []) =
      put_next s a (1 ∷ []) (a + desk_row_at) (row ∷ []) (set-put s a 1 (omega arith))
      (set-put (set s a 1) (a + desk_row_at) row (rw length-set (omega arith))) refl (omega arith) in
      put_next s a (1 ∷ row ∷ []) (a + desk_zeros_at) (0 ∷ 0 ∷ []) two p refl (omega arith)

  module _ (opened : List ℕ) (lo : length opened ≡ row_size) {u : List ℕ} (q : u ≡ put t (desk_at d + opened_at) opened) where
    opened-written : u ≡ put s (desk_at d) (1 ∷ row ∷ 0 ∷ 0 ∷ opened)
    opened-written = put_next s (desk_at d) (1 ∷ row ∷ 0 ∷ 0 ∷ []) (desk_at d + opened_at) opened begun-written q refl (omega arith)

    pub desk-written : (worked : List ℕ) → length worked ≡ row_size → {v : List ℕ} → v ≡ put u (desk_at d + worked_at) worked
        → v ≡ put s (desk_at d) (open_desk row opened worked)
    unfolding open_desk
    desk-written worked lw r = put_next s (desk_at d) (1 ∷ row ∷ 0 ∷ 0 ∷ opened) (desk_at d + worked_at) worked opened-written r (rw lo) (omega arith)

  -- both copies are the row, as it stands in the sheet while the desk is written
  same_row : (w : List ℕ) → length w ≤ worked_at → row < row_count → {x : List ℕ} → x ≡ put s (desk_at d) w
      → part x (row_at row) row_size ≡ part s (row_at row) row_size
  same_row w l used e = rw e (part-before s (desk_at d) w (row_at row) row_size (omega arith) (omega arith))

  pub open-written : row < row_count → {u v : List ℕ} → u ≡ put t (desk_at d + opened_at) (part t (row_at row) row_size)
      → v ≡ put u (desk_at d + worked_at) (part u (row_at row) row_size)
      → v ≡ put s (desk_at d) (open_desk row (part s (row_at row) row_size) (part s (row_at row) row_size))
  open-written used q r =
      let copy = part s (row_at row) row_size in
      let lc = length_part s (row_at row) row_size (omega arith) in
      let first = rw (same_row (1 ∷ row ∷ 0 ∷ 0 ∷ []) (omega arith) used begun-written) at q in
      let second = rw (same_row (1 ∷ row ∷ 0 ∷ 0 ∷ copy) (omega arith) used (opened-written copy lc first)) at r in
      desk-written copy lc first copy lc second
