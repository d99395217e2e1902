-- Of a record that unpack accepts, the first numbers of the list are the record's. Assumes nothing.
use Rattle.std.proofs.Common.{◌≡◌, ℕ, List, [], ◌∷◌, take, ℤ, ◌∙◌}
use lib.Seq.{take-append_seam}
use Rattle.sfdu.specs.Read.{data_part}
use Rattle.sfdu_samples.specs.Calls.{size_of, rate_of, unpacking}
use Rattle.sfdu_samples.proofs.Judged.{accepted-as, unpacks, data_is}
use Rattle.rsr_samples.specs.Parts.{numbers_of}

pub first-numbers : (s : List ℕ) (old : List ℤ) (n : ℕ) → (unpacking s old).0 ≡ 0 ∷ n ∷ [] → take n (unpacking s old).1 ≡ numbers_of s
first-numbers s old n e =
    let u = unpacks s old n e in
    let is = accepted-as s old u.headers ∙ data_is (size_of s) (rate_of s) (data_part s) old u.listed u.whole u.room in
    rw (is, u.count) (take-append_seam (numbers_of s) _)
