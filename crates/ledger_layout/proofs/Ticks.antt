-- A set of positions packed into bytes: a position is a bit of its byte; setting it adds the bit, clearing it subtracts the bit; the bytes and the
-- set determine each other. Assumes nothing.
use Prim.Native.Nat.{ℕ, zero, suc, ◌+◌, ◌*◌, ◌-◌, ◌/◌, ◌%◌, ◌^◌, ◌<◌, ◌≤◌}
use native.Mathlib.Nat.{pow-suc, not-suc-le-zero, le_of_suc-le-suc, div-one, div-div-eq-div-mul, pow-succ', zero-div, le-min, add-sub_cancel}
use native.Mathlib.Omega.{arith}
use mathlib.Core.Bool.{Bool, true, false}
use mathlib.Core.List.{List, [], ◌∷◌}
use mathlib.Core.Logic.{◌⊎◌, inl, inr, ⊎_elim}
use mathlib.Core.Path.{◌≡◌, refl, sym, ap, ◌∙◌}
use borrow.Author.Tests.{ltb-true, ltb-false}
use lib.Dec.{ltb, eqb, lit<}
use lib.ListN.{length, get_or, set, take, drop, length-drop, length-take, length-set}
use lib.Seq.{take-set-lt, drop-set-lt, take-set-le, drop-set-add, get_or-take, get_or-drop, get_or-set_same, set-set, set-get_or, ext_get_or}
use Rattle.ledger_model.specs.Positions.{row_length, Positions, has}
use Rattle.octets.specs.Octets.{part}
use Rattle.octets.proofs.Laws.{Bytes, length_part, part_at}
use Rattle.ledger_sheet.specs.Sheet.{ticks_at, ticks_size, row_size, byte_bits}
use Rattle.ledger_layout.specs.Ticks.{tick_byte_at, tick_bit, ticked_at, ticks_in}
use Rattle.ledger_layout.specs.Layout.{bit, bits_value, tick_bytes}
use Rattle.octets.proofs.Lists.{get_or-table, table_is}

-- ---- one byte

-- setting a clear flag adds its power of two
value_set : (t : List Bool) (i : ℕ) → i < length t → get_or t i false ≡ false → bits_value (set t i true) ≡ bits_value t + 2 ^ i
unfolding bits_value
value_set [] i l e = absurd (not-suc-le-zero l)
value_set (x ∷ t) zero l e = rw e (omega arith)
value_set (x ∷ t) (suc i) l e = rw (value_set t i (le_of_suc-le-suc l) e, pow-suc) (omega arith)

-- a flag is a bit of the value
half : (x : Bool) (v : ℕ) → (bit x + 2 * v) / 2 ≡ v
half true v = omega arith
half false v = omega arith

lowest-bit : (x : Bool) (v : ℕ) → (bit x + 2 * v) % 2 ≡ bit x
lowest-bit true v = omega arith
lowest-bit false v = omega arith

value-bit : (t : List Bool) (i : ℕ) → bits_value t / 2 ^ i % 2 ≡ bit (get_or t i false)
unfolding bits_value
value-bit [] i = rw zero-div
value-bit (x ∷ t) zero = rw (div-one, lowest-bit x (bits_value t))
value-bit (x ∷ t) (suc i) = rw (pow-succ', ← div-div-eq-div-mul, half x (bits_value t)) (value-bit t i)

-- flags of a byte's number make a byte
value-lt : (n : ℕ) (t : List Bool) → bits_value (take n t) < 2 ^ n
unfolding bits_value
value-lt zero t = lit< tt
value-lt (suc n) [] = omega (arith, pow-suc 2 n, value-lt n [])
value-lt (suc n) (true ∷ t) = omega (arith, pow-suc 2 n, value-lt n t)
value-lt (suc n) (false ∷ t) = omega (arith, pow-suc 2 n, value-lt n t)

-- numbers below 2 ^ n with the same n bits are the same
bits-same : (n x y : ℕ) → x < 2 ^ n → y < 2 ^ n → ((k : ℕ) → k < n → x / 2 ^ k % 2 ≡ y / 2 ^ k % 2) → x ≡ y
bits-same zero x y hx hy h = omega arith
bits-same (suc n) x y hx hy h =
    let low : x % 2 ≡ y % 2 = rw (div-one, div-one) at (h 0 (omega arith)) in
    let high : x / 2 ≡ y / 2 = bits-same n (x / 2) (y / 2) (omega (arith, pow-suc 2 n)) (omega (arith, pow-suc 2 n))
    (λ k l. rw (div-div-eq-div-mul, div-div-eq-div-mul, ← pow-succ') (h (suc k) (omega arith))) in
    omega arith

pub test_bit : (x : Bool) → eqb (bit x) 1 ≡ x
test_bit true = refl
test_bit false = refl

bit_test : (x : ℕ) → x < 2 → bit (eqb x 1) ≡ x
bit_test zero h = refl
bit_test (suc zero) h = refl
bit_test (suc (suc x)) h = absurd (omega arith)

-- ---- n bytes

pub length-ticks : (n : ℕ) (t : Positions) → length (tick_bytes n t) ≡ n
unfolding tick_bytes
length-ticks zero t = refl
length-ticks (suc n) t = ap suc (length-ticks n (drop byte_bits t))

-- a position is in the first byte, or in a later one
first-or-later : (i : ℕ) → (i < byte_bits) ⊎ (byte_bits ≤ i)
first-or-later i = by (ltb i byte_bits) refl
  where
    by : (b : Bool) → ltb i byte_bits ≡ b → (i < byte_bits) ⊎ (byte_bits ≤ i)
    by true e = inl (ltb-true i byte_bits e)
    by false e = inr (ltb-false i byte_bits e)

-- position i is bit i mod 8 of byte i div 8
pub tick-at : (n : ℕ) (t : Positions) (i : ℕ) → i < byte_bits * n → get_or (tick_bytes n t) (i / byte_bits) 0 / tick_bit i % 2 ≡ bit (has t i)
unfolding tick_bytes
tick-at zero t i h = absurd (omega arith)
tick-at (suc n) t i h =
    ⊎_elim
    (λ (l : i < byte_bits).
    let k : i / byte_bits ≡ 0 = omega arith in
    let m : i % byte_bits ≡ i = omega arith in
    rw (k, m) (value-bit (take byte_bits t) i ∙ ap bit (get_or-take byte_bits t i false l)))
    (λ (l : byte_bits ≤ i).
    let k : i / byte_bits ≡ suc ((i - byte_bits) / byte_bits) = omega arith in
    let m : i % byte_bits ≡ (i - byte_bits) % byte_bits = omega arith in
    let e : byte_bits + (i - byte_bits) ≡ i = omega arith in
    let here : get_or (drop byte_bits t) (i - byte_bits) false ≡ get_or t i false = rw (get_or-drop, e) in
    rw (k, m, ← here) (tick-at n (drop byte_bits t) (i - byte_bits) (omega arith)))
    (first-or-later i)

pub tick-set : (n : ℕ) (t : Positions) (i : ℕ) → i < byte_bits * n → i < length t → has t i ≡ false
    → set (tick_bytes n t) (i / byte_bits) (get_or (tick_bytes n t) (i / byte_bits) 0 + tick_bit i) ≡ tick_bytes n (set t i true)
unfolding tick_bytes
tick-set zero t i h l e = absurd (omega arith)
tick-set (suc n) t i h l e =
    ⊎_elim
    (λ (q : i < byte_bits).
    let k : i / byte_bits ≡ 0 = omega arith in
    let m : i % byte_bits ≡ i = omega arith in
    rw (
      k,
      m,
      take-set-lt byte_bits t i true q,
      drop-set-lt byte_bits t i true q,
      value_set (take byte_bits t) i (rw length-take (le-min q l)) (get_or-take byte_bits t i false q ∙ e),
    ))
    (λ (q : byte_bits ≤ i).
    let k : i / byte_bits ≡ suc ((i - byte_bits) / byte_bits) = omega arith in
    let m : i % byte_bits ≡ (i - byte_bits) % byte_bits = omega arith in
    let j : byte_bits + (i - byte_bits) ≡ i = omega arith in
    let tail : drop byte_bits (set t i true) ≡ set (drop byte_bits t) (i - byte_bits) true =
    ap (λ (x : ℕ). drop byte_bits (set t x true)) (sym j) ∙ drop-set-add byte_bits t (i - byte_bits) true in
    let clear : get_or (drop byte_bits t) (i - byte_bits) false ≡ false = rw (get_or-drop, j) e in
    let later = tick-set n (drop byte_bits t) (i - byte_bits) (omega arith) (rw length-drop (omega arith)) clear in
    rw (k, m, take-set-le byte_bits t i true q, tail) (ap (λ (r : List ℕ). bits_value (take byte_bits t) ∷ r) later))
    (first-or-later i)

pub tick-clear : (n : ℕ) (t : Positions) (i : ℕ) → i < byte_bits * n → i < length t → has t i ≡ true
    → set (tick_bytes n t) (i / byte_bits) (get_or (tick_bytes n t) (i / byte_bits) 0 - tick_bit i) ≡ tick_bytes n (set t i false)
tick-clear n t i h l e =
    let u = set t i false in
    let k = i / byte_bits in
    let x = get_or (tick_bytes n u) k 0 in
    let back : set u i true ≡ t = set-set t i false true ∙ ap (set t i) (sym e) ∙ set-get_or t i false in
    let full : tick_bytes n t ≡ set (tick_bytes n u) k (x + tick_bit i) =
    ap (tick_bytes n) (sym back) ∙ sym (tick-set n u i h (rw length-set l) (get_or-set_same t i false false l)) in
    let there : k < length (tick_bytes n u) = rw length-ticks (omega arith) in
    let less : x + tick_bit i - tick_bit i ≡ x = add-sub_cancel x (tick_bit i) in
    rw (full, get_or-set_same (tick_bytes n u) k (x + tick_bit i) 0 there, less, set-set) (set-get_or (tick_bytes n u) k 0)

tick-byte-lt : (n : ℕ) (t : Positions) (j : ℕ) → j < n → get_or (tick_bytes n t) j 0 < 2 ^ byte_bits
unfolding tick_bytes
tick-byte-lt zero t j l = absurd (not-suc-le-zero l)
tick-byte-lt (suc n) t zero l = value-lt byte_bits t
tick-byte-lt (suc n) t (suc j) l = tick-byte-lt n (drop byte_bits t) j (le_of_suc-le-suc l)

-- ---- the ticks of a row at offset a of a sheet

module _ (s : List ℕ) (a : ℕ) where
  bit-there : (i : ℕ) → i < row_length → bit (has (ticks_in s a) i) ≡ get_or s (tick_byte_at a i) 0 / tick_bit i % 2
  unfolding ticks_in ticked_at
  bit-there i l = ap bit (get_or-table row_length (ticked_at s a) i false l) ∙ bit_test _ (omega arith)

  -- the bytes of the set that is read are the bytes that are there
  pub ticks-bytes : Bytes s → a + row_size ≤ length s → tick_bytes ticks_size (ticks_in s a) ≡ part s (a + ticks_at) ticks_size
  ticks-bytes bytes h =
      let n = ticks_size in
      let t = ticks_in s a in
      let lt = length-ticks n t in
      ext_get_or 0 (tick_bytes n t) (part s (a + ticks_at) n) (lt ∙ sym (length_part s (a + ticks_at) n (omega arith))) (λ j l.
      let q : j < n = omega arith in
      let here = part_at s (a + ticks_at) n j q in
      bits-same byte_bits (get_or (tick_bytes n t) j 0) (get_or (part s (a + ticks_at) n) j 0)
      (tick-byte-lt n t j q) (rw here (bytes (a + ticks_at + j)).fits) (λ k m.
      let i = byte_bits * j + k in
      let byte : i / byte_bits ≡ j = omega arith in
      let place : i % byte_bits ≡ k = omega arith in
      rw here (rw (byte, place) at (tick-at n t i (omega arith) ∙ bit-there i (omega arith)))))

  -- the set that is read from the bytes of a set is that set
  pub ticks-read : (t : Positions) → length t ≡ row_length → part s (a + ticks_at) ticks_size ≡ tick_bytes ticks_size t → ticks_in s a ≡ t
  unfolding ticks_in ticked_at
  ticks-read t e h =
      table_is row_length (ticked_at s a) t false e (λ i l.
      let byte : get_or s (tick_byte_at a i) 0 ≡ get_or (tick_bytes ticks_size t) (i / byte_bits) 0 =
      sym (part_at s (a + ticks_at) ticks_size (i / byte_bits) (omega arith)) ∙ ap (λ (x : List ℕ). get_or x (i / byte_bits) 0) h in
      rw (byte, tick-at ticks_size t i l) (test_bit (has t i)))
