-- A sheet laid out piece by piece is the layout of the old sheet's book. Assumes nothing.
use Prim.Native.Nat.{ℕ, zero, suc, ◌+◌, ◌*◌, ◌-◌, ◌≤◌, ◌<◌}
use native.Mathlib.Nat.{eq-or-lt_of_le}
use native.Mathlib.Omega.{arith}
use mathlib.Core.Bool.{Bool, true, false, cond, not, not-not}
use mathlib.Core.List.{List, [], ◌++◌, append-nil}
use mathlib.Core.Logic.{◌⊎◌, inl, inr, ⊎_elim}
use mathlib.Core.Path.{◌≡◌, refl, sym, ap, ◌∙◌}
use lib.Dec.{ltb}
use lib.ListN.{length, replicate, length-append, length-replicate, get_or-replicate}
use lib.Seq.{ext_get_or}
use borrow.Author.Tests.{ltb-true, ltb-false, lt-ltb, le-ltb}
use Rattle.ledger_model.specs.Book.{place, with_ticks}
use Rattle.octets.specs.Octets.{bytes_of, part, put}
use Rattle.octets.proofs.Laws.{Bytes, length_part, part_at, length-put}
use Rattle.octets.proofs.Parts.{part_join, part-whole, part-first, part-second}
use Rattle.ledger_sheet.specs.Sheet.{sheet_size, key_start, row_size, row_count, rows_start, desk_size, desk_count}
use Rattle.ledger_sheet.specs.Sheet.{opened_at, desks_start, header_number_size, used_at, row_at, desk_at, count}
use Rattle.ledger_sheet.specs.declared.Row.{Row}
use Rattle.ledger_layout.specs.Rows.{row_bytes}
use Rattle.ledger_changes.specs.inner.Rows.{row_value_at}
use Rattle.ledger_layout.specs.Bytes.{header_bytes, fresh_sheet, open_desk}
use Rattle.ledger_layout.proofs.Puts.{part-put, part_apart}
use Rattle.ledger_layout.specs.Layout.{place_bytes, desk_bytes, count_used, layout}
use Rattle.octets.proofs.Lists.{length-table, laid_table}
use Rattle.ledger_layout.proofs.Rows.{length-place}
use Rattle.ledger_layout.proofs.Places.{length-header, header-put, length-desk}
use Rattle.ledger_layout.proofs.Used.{count_law}
use Rattle.ledger_sheet.specs.Sheet.{used}
use Rattle.ledger_convert.specs.Old as Old
use Rattle.ledger_convert.specs.Convert.{old_place_in, old_desk_in, old_book_of, old_ticks_of}
use Rattle.ledger_convert.specs.inner.Laid.{Laid}
use Rattle.ledger_convert.proofs.Read.{old-bytes, few, long, opened, copy_is, free-at}

-- ---- parts and what is put elsewhere

part-zeros : (n a m : ℕ) → a + m ≤ n → part (replicate n 0) a m ≡ replicate m 0
part-zeros n a m l =
    let lr = length-replicate {A = ℕ} n 0 in
    let lp = length_part (replicate n 0) a m (omega arith) in
    ext_get_or 0 (part (replicate n 0) a m) (replicate m 0) (lp ∙ sym (length-replicate {A = ℕ} m 0)) (λ i q.
    let k : i < m = omega arith in
    part_at (replicate n 0) a m i k ∙ get_or-replicate n (a + i) 0 0 (omega arith) ∙ sym (get_or-replicate m i 0 0 k))

-- below, at and above a number
by_order : (P : Type 0) (j k : ℕ) → (j < k → P) → (j ≡ k → P) → (k < j → P) → P
by_order P j k f g h = by (ltb j k) refl (ltb k j) refl
  where
    by : (t : Bool) → ltb j k ≡ t → (u : Bool) → ltb k j ≡ u → P
    by true p u q = f (ltb-true _ _ p)
    by false p true q = h (ltb-true _ _ q)
    by false p false q = g (let x = ltb-false j k p in let y = ltb-false k j q in omega arith)

-- one chunk more of a sheet of which the first k are laid out
next_of : {A : Type 0} (j k : ℕ) (x y : A) → (j ≡ k → ⊥) → cond (ltb j (k + 1)) x y ≡ cond (ltb j k) x y
next_of j k x y n = by (ltb j k) refl
  where
    by : (t : Bool) → ltb j k ≡ t → cond (ltb j (k + 1)) x y ≡ cond (ltb j k) x y
    by true e = let l = ltb-true j k e in rw (e, lt-ltb j (k + 1) (omega arith))
    by false e = let l = ltb-false j k e in rw (e, le-ltb j (k + 1) (omega (arith, n)))

-- ---- the pieces

module _ (old new : List ℕ) (k d : ℕ) (h : Laid old new k d) where
  -- a row
  pub row_laid : (v t : List ℕ) → k < row_count → v ≡ place_bytes (old_place_in old k) → t ≡ put new (row_at k) v → Laid old t (k + 1) d
  row_laid v t l e p =
      let lv : length v ≡ row_size = ap length e ∙ length-place (old_place_in old k) in
      let ln = h.long in
      let room : row_at k + length v ≤ length new = omega arith in
      let apart : (b n : ℕ) → b + n ≤ length new → (b + n ≤ row_at k) ⊎ (row_at k + length v ≤ b) → part t b n ≡ part new b n = λ b n m o.
      ap (λ (x : List ℕ). part x b n) p ∙ part_apart new (row_at k) v b n room m o in
      record {
        long = ap length p ∙ length-put new (row_at k) v room ∙ ln;
        header = apart 0 rows_start (omega arith) (inl (omega arith)) ∙ h.header;
        rows = λ j m.
            by_order _ j k
            (λ q. apart (row_at j) row_size (omega arith) (inl (omega arith)) ∙ h.rows j m ∙ sym (next_of j k _ _ (λ z. omega arith)))
            (λ q.
            rw (q, lt-ltb k (k + 1) (omega arith))
            (ap (λ (x : List ℕ). part x (row_at k) row_size) p ∙ part-put new (row_at k) v row_size lv (omega arith) ∙ e))
            (λ q. apart (row_at j) row_size (omega arith) (inr (omega arith)) ∙ h.rows j m ∙ sym (next_of j k _ _ (λ z. omega arith)));
        desks = λ e m. apart (desk_at e) desk_size (omega arith) (inr (omega arith)) ∙ h.desks e m;
      }

  -- a desk
  pub desk-laid : (v t : List ℕ) → d < desk_count → v ≡ desk_bytes (old_book_of old).places (old_desk_in old d)
      → t ≡ put new (desk_at d) v → Laid old t k (d + 1)
  desk-laid v t l e p =
      let lv : length v ≡ desk_size = ap length e ∙ length-desk (old_book_of old).places (old_desk_in old d) in
      let ln = h.long in
      let room : desk_at d + length v ≤ length new = omega arith in
      let apart : (b n : ℕ) → b + n ≤ length new → (b + n ≤ desk_at d) ⊎ (desk_at d + length v ≤ b) → part t b n ≡ part new b n = λ b n m o.
      ap (λ (x : List ℕ). part x b n) p ∙ part_apart new (desk_at d) v b n room m o in
      record {
        long = ap length p ∙ length-put new (desk_at d) v room ∙ ln;
        header = apart 0 rows_start (omega arith) (inl (omega arith)) ∙ h.header;
        rows = λ j m. apart (row_at j) row_size (omega arith) (inl (omega arith)) ∙ h.rows j m;
        desks = λ j m.
            by_order _ j d
            (λ q. apart (desk_at j) desk_size (omega arith) (inl (omega arith)) ∙ h.desks j m ∙ sym (next_of j d _ _ (λ z. omega arith)))
            (λ q.
            rw (q, lt-ltb d (d + 1) (omega arith))
            (ap (λ (x : List ℕ). part x (desk_at d) desk_size) p ∙ part-put new (desk_at d) v desk_size lv (omega arith) ∙ e))
            (λ q. apart (desk_at j) desk_size (omega arith) (inr (omega arith)) ∙ h.desks j m ∙ sym (next_of j d _ _ (λ z. omega arith)));
      }

  -- a closed desk is there already
  pub closed-laid : Old.is_closed old d ≡ true → Laid old new k (d + 1)
  unfolding old_desk_in desk_bytes
  closed-laid o =
      record {
        long = h.long;
        header = h.header;
        rows = h.rows;
        desks = λ j m.
            by_order _ j d
            (λ q. h.desks j m ∙ sym (next_of j d _ _ (λ z. omega arith)))
            (λ q. h.desks j m ∙ rw (q, le-ltb d d (omega arith), lt-ltb d (d + 1) (omega arith), o))
            (λ q. h.desks j m ∙ sym (next_of j d _ _ (λ z. omega arith)));
      }

-- the free rows are there already
pub rows-laid : (old new : List ℕ) (d : ℕ) → Laid old new (used old) d → Laid old new row_count d
unfolding old_place_in place_bytes
rows-laid old new d h =
    record {
      long = h.long;
      header = h.header;
      rows = λ j m. h.rows j m ∙ rw (lt-ltb j row_count m) (by j (ltb j (used old)) refl);
      desks = h.desks;
    }
  where
    by : (j : ℕ) (t : Bool) → ltb j (used old) ≡ t
        → cond (ltb j (used old)) (place_bytes (old_place_in old j)) (replicate row_size 0) ≡ place_bytes (old_place_in old j)
    by j true e = rw e
    by j false e = rw e

-- ---- the start

pub fresh-laid : (old : List ℕ) {t u : List ℕ} → t ≡ fresh_sheet → u ≡ put t used_at (bytes_of header_number_size (used old)) → Laid old u 0 0
unfolding fresh_sheet
fresh-laid old {t} {u} p q =
    let m = used old in
    let zeros : List ℕ = replicate (sheet_size - rows_start) 0 in
    let lz = length-replicate {A = ℕ} (sheet_size - rows_start) 0 in
    let lh = length-header m in
    let is : u ≡ header_bytes m ++ zeros =
    q ∙ ap (λ (x : List ℕ). put x used_at (bytes_of header_number_size m)) (p ∙ sym (append-nil (header_bytes 0 ++ zeros)))
    ∙ header-put 0 m zeros [] ∙ append-nil (header_bytes m ++ zeros) in
    let zero-part : (a n : ℕ) → rows_start ≤ a → a + n ≤ sheet_size → part u a n ≡ replicate n 0 = λ a n l r.
    ap (λ (x : List ℕ). part x a n) is ∙ part-second (header_bytes m) zeros a (a - rows_start) n (omega arith)
    ∙ part-zeros (sheet_size - rows_start) (a - rows_start) n (omega arith) in
    record {
      long = ap length is ∙ length-append (header_bytes m) zeros ∙ omega arith;
      header =
          ap (λ (x : List ℕ). part x 0 rows_start) is ∙ part-first (header_bytes m) zeros 0 rows_start (omega arith)
          ∙ part-whole (header_bytes m) rows_start lh;
      rows = λ j l. rw (le-ltb j 0 (omega arith)) (zero-part (row_at j) row_size (omega arith) (omega arith));
      desks = λ e l. rw (le-ltb e 0 (omega arith)) (zero-part (desk_at e) desk_size (omega arith) (omega arith));
    }

-- ---- the end

count-all : (n u : ℕ) → n ≤ u → count n (λ i. ltb i u) ≡ n
unfolding count
count-all zero u l = refl
count-all (suc n) u l = rw (count-all n u (omega arith), lt-ltb n u (omega arith)) (omega arith)

count-below : (n u : ℕ) → u ≤ n → count n (λ i. ltb i u) ≡ u
unfolding count
count-below zero u l = omega arith
count-below (suc n) u l =
    ⊎_elim
    (λ (q : u ≡ suc n). rw q (count-all (suc n) (suc n) (omega arith)))
    (λ (q : u < suc n). rw (count-below n u (omega arith), le-ltb n u (omega arith)) (omega arith))
    (eq-or-lt_of_le l)

module _ (old : List ℕ) (r : Old.right old ≡ true) where
  count-is : count_used (old_book_of old).places ≡ used old
  unfolding old_book_of
  count-is =
      let n = length-table row_count (old_place_in old) in
      let u = used old in
      sym (count_law (old_book_of old).places (λ i. ltb i u) (λ i l. sym (not-not (ltb i u)) ∙ ap not (sym (free-at old r i))))
      ∙ rw n (count-below row_count u (few old r))

  pub all_laid : (new : List ℕ) → Laid old new row_count desk_count → new ≡ layout (old_book_of old)
  unfolding layout old_book_of
  all_laid new h =
      let rows = laid_table new row_size place_bytes row_count rows_start (old_place_in old) (λ i l. sym (h.rows i l ∙ rw (lt-ltb i row_count l))) in
      let desks = laid_table new desk_size (desk_bytes (old_book_of old).places) desk_count desks_start (old_desk_in old)
      (λ i l. sym (h.desks i l ∙ rw (lt-ltb i desk_count l))) in
      let front = part_join new 0 rows_start rows_start (row_size * row_count) desks_start refl refl in
      let whole = part_join new 0 desks_start desks_start (desk_size * desk_count) sheet_size refl refl in
      sym (rw (count-is, ← h.header, rows, desks, front, whole) (part-whole new sheet_size h.long))

-- ---- what is copied

module _ (old : List ℕ) (r : Old.right old ≡ true) (bytes : Bytes old) where
  pub row_copied : (i b : ℕ) → i < used old → b + key_start ≡ Old.row_at i → (v : Row) → v ≡ row_value_at old b
      → row_bytes v.key v.first v.ticks ≡ place_bytes (old_place_in old i)
  unfolding old_place_in
  row_copied i b l e v is =
      let m = few old r in
      let n = long old r in
      rw (lt-ltb i (used old) l) (old-bytes old (Old.row_at i) b e bytes (omega arith) v is)

  -- a copy at offset c of an open desk
  copied : (d c b : ℕ) → d < desk_count → Old.is_closed old d ≡ false → b + key_start ≡ c → c + Old.row_size ≤ Old.sheet_size
      → Old.carries old c (Old.desk_row old d) ≡ true → (v : Row) → v ≡ row_value_at old b
      → row_bytes v.key v.first v.ticks ≡ place_bytes (with_ticks (old_ticks_of old c) (place (old_book_of old) (Old.desk_row old d)))
  copied d c b l o e h k v is =
      let n = long old r in
      old-bytes old c b e bytes (omega arith) v is ∙ ap place_bytes (copy_is old r (Old.desk_row old d) c (opened old r d l o).names h k)

  pub desk-copied : (d b c : ℕ) → d < desk_count → Old.is_closed old d ≡ false → b + key_start ≡ Old.desk_at d + opened_at
      → c + key_start ≡ Old.desk_at d + Old.worked_at → (v w : Row) → v ≡ row_value_at old b → w ≡ row_value_at old c
      → open_desk (Old.desk_row old d) (row_bytes v.key v.first v.ticks) (row_bytes w.key w.first w.ticks)
      ≡ desk_bytes (old_book_of old).places (old_desk_in old d)
  unfolding old_desk_in desk_bytes
  desk-copied d b c l o e f v w x y =
      let h = opened old r d l o in
      rw (
        o,
        copied d (Old.desk_at d + opened_at) b l o e (omega arith) h.opened-carries v x,
        copied d (Old.desk_at d + Old.worked_at) c l o f (omega arith) h.worked-carries w y,
      )
