-- What the code does to a sheet is the layout of the model's call on the settings in the sheet. Assumes nothing.
use Prim.Native.Nat.{ℕ, ◌+◌, ◌*◌, ◌-◌, ◌<◌}
use native.Mathlib.Omega.{arith}
use mathlib.Core.Bool.{true, false}
use mathlib.Core.List.{List, [], ◌∷◌, ◌++◌, append_assoc}
use mathlib.Core.Path.{◌≡◌, refl, sym, ◌∙◌}
use lib.ListN.{length, replicate, length-append, length-replicate, replicate-append-replicate}
use borrow.Author.Tests.{eq-eqb, ne_eqb}
use Rattle.refusals.specs.Judge.{judge}
use Rattle.octets.specs.Octets.{put}
use Rattle.octets.proofs.Laws.{Bytes}
use Rattle.octets.proofs.Puts.{put-put, put-seam, put_whole}
use Rattle.settings.specs.declared.Setting.{Setting}
use Rattle.octets.specs.Lists.{laid}
use Rattle.settings.specs.Fields.{field_bytes}
use Rattle.settings.specs.Model.{places, known, holds, latest, Outcome, add, found_words, ask}
use Rattle.settings.specs.Sheet.{entries_start, entry_size, sheet_size, entry_at, count, settings_of, right}
use Rattle.settings.specs.Layout.{header_fields, entry_bytes, layout, on_sheet}
use Rattle.octets.proofs.Lists.{laid_more}
use Rattle.settings.proofs.Sheets.{length-header, length-entry, length-entries, read-law, count-is}

-- ---- an empty sheet

pub empty-written : (s : List ℕ) → length s ≡ sheet_size
    → put (put s 0 (field_bytes (header_fields 0))) entries_start (replicate (sheet_size - entries_start) 0) ≡ layout []
unfolding layout laid
empty-written s l =
    let header = field_bytes (header_fields 0) in
    let zeros : List ℕ = replicate (sheet_size - entries_start) 0 in
    let lh = length-header 0 in
    let lz = length-replicate {A = ℕ} (sheet_size - entries_start) 0 in
    put-put s 0 header entries_start zeros (omega arith) (omega arith) ∙ put_whole s (header ++ zeros) (omega (arith, length-append header zeros))

-- ---- one setting more

-- The sheet with x in entry n, and n + 1 entries counted.
abbrev pub written : List ℕ → ℕ → Setting → List ℕ
written s n x = put (put s (entry_at n) (entry_bytes x)) 0 (field_bytes (header_fields (n + 1)))

pub add-written : (xs : List Setting) (x : Setting) → length xs < places → written (layout xs) (length xs) x ≡ layout (xs ++ (x ∷ []))
unfolding layout
add-written xs x l =
    let n = length xs in
    let h = field_bytes (header_fields n) in
    let g = field_bytes (header_fields (n + 1)) in
    let e = laid entry_bytes xs in
    let b = entry_bytes x in
    let one : List ℕ = replicate entry_size 0 in
    let rest : List ℕ = replicate (entry_size * (places - (n + 1))) 0 in
    let zeros : replicate (entry_size * (places - n)) 0 ≡ one ++ rest =
    (let k : entry_size * (places - n) ≡ entry_size + entry_size * (places - (n + 1)) = omega arith in rw (k, replicate-append-replicate)) in
    let before : h ++ (e ++ (one ++ rest)) ≡ (h ++ e) ++ (one ++ rest) = simp append_assoc in
    let entry : put ((h ++ e) ++ (one ++ rest)) (entry_at n) b ≡ (h ++ e) ++ (b ++ rest) =
    (
    let front : length (h ++ e) ≡ entry_at n = omega (arith, length-append h e, length-header n, length-entries xs) in
    put-seam (h ++ e) one rest b (entry_at n) front (length-replicate {A = ℕ} entry_size 0 ∙ sym (length-entry x))
    ) in
    let after : (h ++ e) ++ (b ++ rest) ≡ h ++ ((e ++ b) ++ rest) = simp append_assoc in
    let header : put (h ++ ((e ++ b) ++ rest)) 0 g ≡ g ++ ((e ++ b) ++ rest) =
    put-seam [] h ((e ++ b) ++ rest) g 0 refl (length-header n ∙ sym (length-header (n + 1))) in
    let count : length (xs ++ (x ∷ [])) ≡ n + 1 = length-append xs (x ∷ []) in
    rw (zeros, before, entry, after, header, count, laid_more entry_bytes xs x)

-- ---- on any slice

pub not_right : (f : List Setting → Outcome) (s : List ℕ) → right s ≡ false → (43 ∷ [], s) ≡ on_sheet f s
unfolding on_sheet
not_right f s e = rw e

module _ (s : List ℕ) (bytes : Bytes s) (r : right s ≡ true) where
  pub asked : (m d : ℕ) → (found_words (latest m d (settings_of s)), s) ≡ on_sheet (ask m d) s
  unfolding on_sheet ask
  asked m d = rw (r, read-law s bytes r)

  module _ (m e d f : ℕ) where
    pub unknown : known e ≡ false → (44 ∷ [], s) ≡ on_sheet (add m e d f) s
    unfolding on_sheet add judge
    unknown k = rw (r, k, read-law s bytes r)

    pub twice : known e ≡ true → holds m d (settings_of s) ≡ true → (45 ∷ [], s) ≡ on_sheet (add m e d f) s
    unfolding on_sheet add judge
    twice k h = rw (r, k, h, read-law s bytes r)

    pub full : known e ≡ true → holds m d (settings_of s) ≡ false → count s ≡ places → (46 ∷ [], s) ≡ on_sheet (add m e d f) s
    unfolding on_sheet add judge
    full k h c = let all = eq-eqb (length (settings_of s)) places (count-is s bytes r ∙ c) in rw (r, k, h, all, read-law s bytes r)

    pub accepted : known e ≡ true → holds m d (settings_of s) ≡ false → count s < places
        → (0 ∷ [], written s (count s) (record { mission = m; edition = e; day = d; frame = f })) ≡ on_sheet (add m e d f) s
    unfolding on_sheet add judge
    accepted k h c =
        let x : Setting = record { mission = m; edition = e; day = d; frame = f } in
        let n = count-is s bytes r in
        let more = add-written (settings_of s) x (omega arith) in
        let here : written s (count s) x ≡ layout (settings_of s ++ (x ∷ [])) = rw (read-law s bytes r, n) at more in
        rw (r, k, h, n, ne_eqb (count s) places (λ z. omega arith), here)
