-- Fields: reading one where it was written, the bytes of one that was read, and writing them one by one. Each law is stated once for any width.
-- Assumes nothing.
use Prim.Native.Nat.{ℕ, ◌+◌, ◌^◌, ◌<◌, ◌≤◌}
use native.Mathlib.Omega.{arith}
use mathlib.Core.List.{List, [], ◌∷◌, ◌++◌, append_assoc}
use mathlib.Core.Path.{◌≡◌, refl, sym, ap, subst, ◌∙◌}
use lib.ListN.{length, length-append}
use Rattle.octets.specs.Octets.{number_at, bytes_of, part, put}
use Rattle.octets.proofs.Laws.{Bytes, length-bytes_of, length-put, put-none}
use Rattle.octets.proofs.Parts.{number-first, number-second, number-bytes, bytes-number, part_join}
use Rattle.octets.proofs.Puts.{put-put}
use Rattle.settings.specs.Fields.{Field, ◌holding◌, field_bytes}
use Rattle.settings.specs.inner.Widths.{width_of}

-- Each value fits its width.
abbrev pub AllFit : List Field → Type 0
AllFit [] = Unit {0}
AllFit ((w holding v) ∷ fs) = (v < 256 ^ w) × AllFit fs

-- The fields stand from offset k of what is at index a on.
abbrev pub Stands : List ℕ → (a k : ℕ) → List Field → Type 0
Stands s a k [] = Unit {0}
Stands s a k ((w holding v) ∷ fs) = (number_at s (a + k) w ≡ v) × Stands s a (k + w) fs

pub length_fields : (fs : List Field) → length (field_bytes fs) ≡ width_of fs
unfolding field_bytes
length_fields [] = refl
length_fields ((w holding v) ∷ fs) = rw (length-append, length-bytes_of, length_fields fs)

-- laid out between two lists, they are read there
pub fields-stand : (p q : List ℕ) (fs : List Field) (a k : ℕ) → length p ≡ a + k → AllFit fs → Stands (p ++ (field_bytes fs ++ q)) a k fs
unfolding field_bytes
fields-stand p q [] a k e h = tt
fields-stand p q ((w holding v) ∷ fs) a k e h =
    let b = bytes_of w v in
    let lb = length-bytes_of w v in
    let lp : length (p ++ b) ≡ a + (k + w) = omega (arith, length-append p b) in
    let first : p ++ (b ++ field_bytes fs ++ q) ≡ p ++ (b ++ (field_bytes fs ++ q)) = rw (append_assoc b (field_bytes fs) q) in
    let others : (p ++ b) ++ (field_bytes fs ++ q) ≡ p ++ (b ++ field_bytes fs ++ q) = simp append_assoc in (
      ap (λ (t : List ℕ). number_at t (a + k) w) first
          ∙ number-second p (b ++ (field_bytes fs ++ q)) (a + k) 0 w (omega arith)
          ∙ number-first b (field_bytes fs ++ q) 0 w (omega arith)
          ∙ number-bytes w v h.0,
      subst (λ (t : List ℕ). Stands t a (k + w) fs) others (fields-stand (p ++ b) q fs a (k + w) lp h.1),
    )

-- as they were read, they are laid out again
pub fields-part : (s : List ℕ) (fs : List Field) (a k : ℕ) → Bytes s → a + k + width_of fs ≤ length s → Stands s a k fs
    → field_bytes fs ≡ part s (a + k) (width_of fs)
unfolding field_bytes part
fields-part s [] a k bytes l h = refl
fields-part s ((w holding v) ∷ fs) a k bytes l h =
    let one : bytes_of w v ≡ part s (a + k) w = ap (bytes_of w) (sym h.0) ∙ bytes-number s (a + k) w bytes (omega arith) in
    rw (one, fields-part s fs a (k + w) bytes (omega arith) h.1) (part_join s (a + k) w (a + (k + w)) (width_of fs) (w + width_of fs) (omega arith) refl)

-- written one by one
abbrev pub put_fields : List ℕ → (a k : ℕ) → List Field → List ℕ
put_fields s a k [] = s
put_fields s a k ((w holding v) ∷ fs) = put_fields (put s (a + k) (bytes_of w v)) a (k + w) fs

pub fields-put : (s : List ℕ) (fs : List Field) (a k : ℕ) → a + k + width_of fs ≤ length s → put_fields s a k fs ≡ put s (a + k) (field_bytes fs)
unfolding field_bytes
fields-put s [] a k l = sym (put-none s (a + k))
fields-put s ((w holding v) ∷ fs) a k l =
    let b = bytes_of w v in
    let lb = length-bytes_of w v in
    let lf = length_fields fs in
    let ls = length-put s (a + k) b (omega arith) in
    fields-put (put s (a + k) b) fs a (k + w) (omega arith) ∙ put-put s (a + k) b (a + (k + w)) (field_bytes fs) (omega arith) (omega arith)
