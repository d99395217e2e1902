-- The bytes of a row read back as the row; and a row that is read from any bytes has these bytes. Assumes nothing.
use Prim.Native.Nat.{ℕ, ◌+◌, ◌-◌, ◌≤◌}
use native.Mathlib.Nat.{lt_trans, zero-add, suc-add, add-zero}
use native.Mathlib.Omega.{arith}
use mathlib.Core.List.{List, [], ◌∷◌, ◌++◌}
use mathlib.Core.Path.{◌≡◌, refl, sym, ap, ◌∙◌}
use lib.Dec.{lit<}
use lib.ListN.{length, get_or, set, length-append, length-replicate}
use Rattle.keys.proofs.Laws.{below-valid}
use Rattle.keys.proofs.Numbers.{modulus-fits}
use Rattle.ledger_model.specs.Positions.{Positions}
use Rattle.ledger_model.specs.Book.{Place, free, row}
use Rattle.ledger_model.specs.WellFormed.{PlaceOk}
use Rattle.octets.specs.Octets.{number_at, bytes_of, part}
use Rattle.octets.proofs.Laws.{Bytes, length-bytes_of, get_d_past}
use Rattle.octets.proofs.Parts.{bytes-number, part_join, part-first, part-whole}
use Rattle.ledger_sheet.specs.Sheet.{used_flag_size, used_flag, key_start, key_size, first_at, first_size, ticks_at, ticks_size, row_size, key_at}
use Rattle.ledger_sheet.specs.Sheet.{first_number_at}
use Rattle.ledger_layout.specs.Ticks.{ticks_in}
use Rattle.ledger_layout.specs.Rows.{row_bytes}
use Rattle.ledger_layout.proofs.RowBytes.{length-row, row-flag, row-key, row_first, row-ticks}
use Rattle.ledger_layout.specs.Layout.{tick_bytes, place_bytes}
use Rattle.ledger_layout.proofs.Parts.{number-within, part-within}
use Rattle.ledger_layout.proofs.Ticks.{length-ticks, ticks-bytes, ticks-read}

-- ---- the bytes of a row with any tick bytes

module _ (key first : ℕ) (ts : List ℕ) where
  abbrev head : List ℕ
  head = bytes_of used_flag_size used_flag ++ bytes_of key_size key ++ bytes_of first_size first

  length-head : length head ≡ ticks_at
  length-head = simp (length-append, length-bytes_of)

  -- the flag, the key and the first number
  row-head : part (row_bytes key first ts) 0 ticks_at ≡ head
  unfolding row_bytes
  row-head =
      let l = length-head in
      part-first head ts 0 ticks_at (omega arith) ∙ part-whole head ticks_at l

  -- a tick byte, read and stored
  pub row-byte : (k : ℕ) → get_or (row_bytes key first ts) (ticks_at + k) 0 ≡ get_or ts k 0
  unfolding row_bytes
  row-byte k =
      let e : ticks_at + k - ticks_at ≡ k = omega arith in
      get_d_past head ts ticks_at (ticks_at + k) length-head (omega arith) ∙ ap (λ (j : ℕ). get_or ts j 0) e

  pub row-store : (k v : ℕ) → set (row_bytes key first ts) (ticks_at + k) v ≡ row_bytes key first (set ts k v)
  unfolding row_bytes
  row-store k v = set-second head ts k (ticks_at + k) v (let l = length-head in omega arith)
    where
      set-second : (p q : List ℕ) (k a : ℕ) (v : ℕ) → length p + k ≡ a → set (p ++ q) a v ≡ p ++ set q k v
      set-second [] q k a v e = rw (← e, zero-add)
      set-second (x ∷ p) q k a v e = rw (← e, suc-add) (ap (λ (t : List ℕ). x ∷ t) (set-second p q k (length p + k) v refl))

-- ---- places

pub length-place : (p : Place) → length (place_bytes p) ≡ row_size
unfolding place_bytes
length-place free = length-replicate {A = ℕ} row_size 0
length-place (row key first ticks) = length-row key first (tick_bytes ticks_size ticks) (length-ticks ticks_size ticks)

-- what the row at offset a says
pub record Says (s : List ℕ) (a : ℕ) (key first : ℕ) (ticks : Positions) : Type 0 where
  pub flag_is : number_at s a used_flag_size ≡ used_flag
  pub key-is : key_at s a ≡ key
  pub first-is : first_number_at s a ≡ first
  pub ticks-are : ticks_in s a ≡ ticks

-- a row is read back from its bytes
pub row-says : (s : List ℕ) (a key first : ℕ) (ticks : Positions) → PlaceOk (row key first ticks) → part s a row_size ≡ place_bytes (row key first ticks)
    → Says s a key first ticks
unfolding place_bytes
row-says s a key first ticks ok e =
    let ts = tick_bytes ticks_size ticks in
    record {
      flag_is =
          sym (number-within s a row_size 0 used_flag_size a (add-zero a) (omega arith)) ∙ ap (λ (t : List ℕ). number_at t 0 used_flag_size) e
          ∙ row-flag key first ts;
      key-is =
          sym (number-within s a row_size key_start key_size (a + key_start) refl (omega arith)) ∙ ap (λ (t : List ℕ). number_at t key_start key_size) e
          ∙ row-key key first ts (lt_trans (below-valid key ok.0) (lit< tt));
      first-is =
          sym (number-within s a row_size first_at first_size (a + first_at) refl (omega arith)) ∙ ap (λ (t : List ℕ). number_at t first_at first_size) e
          ∙ row_first key first ts (omega (arith, ok.1, modulus-fits key));
      ticks-are = ticks-read s a ticks ok.2
          (sym (part-within s a row_size ticks_at ticks_size (a + ticks_at) refl (omega arith)) ∙ ap (λ (t : List ℕ). part t ticks_at ticks_size) e
          ∙ row-ticks key first ts (length-ticks ticks_size ticks));
    }

-- rows with the same bytes have the same set
pub row_same : (key first : ℕ) (t u : Positions) → PlaceOk (row key first t) → PlaceOk (row key first u)
    → place_bytes (row key first t) ≡ place_bytes (row key first u) → t ≡ u
row_same key first t u p q e =
    let s = place_bytes (row key first t) in
    let whole = part-whole s row_size (length-place (row key first t)) in
    sym (row-says s 0 key first t p whole).ticks-are ∙ (row-says s 0 key first u q (whole ∙ e)).ticks-are

-- a copy carries the row's flag, key and first number, whatever its set
pub row_carries : (key first : ℕ) (t u : Positions) → part (place_bytes (row key first t)) 0 ticks_at ≡ part (place_bytes (row key first u)) 0 ticks_at
unfolding place_bytes
row_carries key first t u = row-head key first (tick_bytes ticks_size t) ∙ sym (row-head key first (tick_bytes ticks_size u))

-- the bytes of a row that is read are the bytes that are there
pub row-there : (s : List ℕ) (a : ℕ) → Bytes s → a + row_size ≤ length s → number_at s a used_flag_size ≡ used_flag
    → place_bytes (row (key_at s a) (first_number_at s a) (ticks_in s a)) ≡ part s a row_size
unfolding place_bytes row_bytes
row-there s a bytes h one =
    let flag : bytes_of used_flag_size used_flag ≡ part s a used_flag_size =
    ap (bytes_of used_flag_size) (sym one) ∙ bytes-number s a used_flag_size bytes (omega arith) in
    rw (
      flag,
      bytes-number s (a + key_start) key_size bytes (omega arith),
      bytes-number s (a + first_at) first_size bytes (omega arith),
      ticks-bytes s a bytes h,
      part_join s a used_flag_size (a + key_start) key_size first_at refl refl,
      part_join s a first_at (a + first_at) first_size ticks_at refl refl,
    )
    (part_join s a ticks_at (a + ticks_at) ticks_size row_size refl refl)
