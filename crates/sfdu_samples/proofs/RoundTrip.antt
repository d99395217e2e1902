-- The round trip, both ways, for the calls. Assumes nothing.
use Rattle.std.proofs.Common.{◌≡◌, take, ◌∙◌}
use lib.Seq.{take-append_seam}
use Rattle.refusals.proofs.Judged.{none-hold}
use Rattle.sfdu.specs.Read.{data_part}
use Rattle.sfdu_headers.specs.RsrRecord.{rsr_rules}
use Rattle.sfdu_samples.specs.Calls.{size_of, rate_of, unpacking, packing}
use Rattle.sfdu_samples.specs.Packing.{unpacked, packed}
use Rattle.sfdu_samples.specs.RoundTrip.{UnpackedPacksAgain, PackedUnpacksAgain}
use Rattle.sfdu_samples.proofs.Again.{unpacked-coded, unpacked-whole, packed-whole, packed-unpacked, unpacked-packed}
use Rattle.sfdu_samples.proofs.Judged.{accepted-as, unpacks, packs, data_is, pack-is}
use Rattle.sfdu_samples.proofs.Parts.{bytes-data}
use Rattle.sfdu_samples.proofs.Widths.{listed-width}

pub unpacked-packs-again : UnpackedPacksAgain
unpacked-packs-again s bytes list n e out room =
    let size = size_of s in
    let rate = rate_of s in
    let d = data_part s in
    let u = unpacks s list n e in
    let w = listed-width size rate u.listed in
    let is = accepted-as s list u.headers ∙ data_is size rate d list u.listed u.whole u.room in
    let first : take n (unpacking s list).1 ≡ unpacked size d = rw (is, u.count) (take-append_seam (unpacked size d) _) in
    let again = packed-unpacked size w d (bytes-data s (λ i. record { fits = bytes i })) u.whole in
    let packs-is = pack-is size rate (unpacked size d) out u.listed (unpacked-whole size w d) (unpacked-coded size w d) (rw again room) in
    rw first (rw again at packs-is)

pub packed-unpacks-again : PackedUnpacksAgain
packed-unpacks-again s accepted xs out n e same list room =
    let size = size_of s in
    let rate = rate_of s in
    let p = packs size rate xs out n e in
    let w = listed-width size rate p.listed in
    let is = pack-is size rate xs out p.listed p.whole p.coded p.room in
    let first : take n (packing size rate xs out).1 ≡ packed size xs = rw (is, p.count) (take-append_seam (packed size xs) _) in
    let again = unpacked-packed size w xs p.coded p.whole in
    let unpacks-is = data_is size rate (packed size xs) list p.listed (packed-whole size xs) (rw again room) in
    accepted-as s list (none-hold (rsr_rules s) accepted) ∙ rw (same, first) (rw again at unpacks-is)
