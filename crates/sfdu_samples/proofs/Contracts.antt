-- The round trip is of the functions' contracts: unpack and pack ask nothing of a caller, and promise what it speaks of. `a` is the arguments,
-- r the answer, e the arguments at exit. Assumes nothing.
use Rattle.std.proofs.Common.{◌≡◌, ℕ, ◌<◌, ◌≤◌, true, List, [], ◌∷◌, length, get_or, take, ℤ, sym, ap, ◌∙◌}
use Rattle.laws.proofs.Keeps.{Keeps}
use Rattle.refusals.specs.Judge.{none_applies}
use Rattle.sfdu.specs.Read.{data_part}
use Rattle.sfdu_headers.specs.RsrRecord.{rsr_rules}
use Rattle.sfdu_samples.specs.Calls.{words_of, fills, size_of, rate_of, unpacking, packing}
use Rattle.sfdu_samples.proofs.RoundTrip.{unpacked-packs-again, packed-unpacks-again}
use Rattle.sfdu_samples.proofs.unpack.Reads as unpack
use Rattle.sfdu_samples.proofs.unpack.Kinds as unpack-kinds
use Rattle.sfdu_samples.proofs.pack.Reads as pack
use Rattle.sfdu_samples.proofs.pack.Kinds as pack-kinds

-- Where unpack answers N, pack makes the data part again of the first N numbers of the list at exit.
pub unpack-keeps : Keeps 2 unpack-kinds.ps unpack-kinds.r unpack.Asked unpack.Learnt
    (λ κs a r e.
    let s = a.0.now in
    ((words_of r, e.1.0.now) ≡ unpacking s a.1.0.now)
    × (((i : ℕ) → get_or s i 0 < 256) → (n : ℕ) → words_of r ≡ 0 ∷ n ∷ [] → (out : List ℕ) → length (data_part s) ≤ length out
    → packing (size_of s) (rate_of s) (take n e.1.0.now) out ≡ (0 ∷ length (data_part s) ∷ [], fills (data_part s) out)))
unpack-keeps =
    record {
      asks_nothing = λ κs a. tt;
      gives = λ κs a r e fits h. (
        h,
        λ bytes n done out room.
            rw (ap (λ o. o.1) h)
            (unpacked-packs-again a.0.now bytes a.1.0.now n (sym (ap (λ o. o.0) h) ∙ done) out room),
      );
    }

-- Where pack answers N, unpack finds the numbers again in every record that has them.
pub pack-keeps : Keeps 2 pack-kinds.ps pack-kinds.r pack.Asked pack.Learnt
    (λ κs a r e.
    let xs = a.1.1.0.now in
    let out = e.1.1.1.0.now in
    ((words_of r, out) ≡ packing a.0 a.1.0 xs a.1.1.1.0.now)
    × ((s : List ℕ) → none_applies (rsr_rules s) ≡ true → size_of s ≡ a.0 → rate_of s ≡ a.1.0 → (n : ℕ) → words_of r ≡ 0 ∷ n ∷ []
    → data_part s ≡ take n out → (list : List ℤ) → length xs ≤ length list → unpacking s list ≡ (0 ∷ length xs ∷ [], fills xs list)))
pack-keeps =
    record {
      asks_nothing = λ κs a. tt;
      gives = λ κs a r e fits h. (
        h,
        λ s fine size rate n done part list room.
            let same = rw (← size, ← rate) at h in
            packed-unpacks-again s fine a.1.1.0.now a.1.1.1.0.now n (sym (ap (λ o. o.0) same) ∙ done)
            (part ∙ ap (λ o. take n o.1) same) list room,
      );
    }
