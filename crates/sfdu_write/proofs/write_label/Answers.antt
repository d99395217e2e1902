-- `sfdu_write::write_label` meets its contract. Each piece is put behind the one before. Assumes nothing.
use native.Mathlib.Omega.{arith}
use Prim.Native.Nat.{◌-◌}
use mathlib.Core.List.{◌++◌}
use mathlib.Core.Path.{refl}
use lib.ListN.{length-append}
use Rattle.octets.specs.Octets.{bytes_of}
use Rattle.octets.proofs.Laws.{length-bytes_of}
use Rattle.octets.proofs.Puts.{put_next}
use Rattle.sfdu.specs.Nesting.{authority, version_class, kind_bytes, label_size, length_size}
use Rattle.sfdu_write.specs.Write.{label_bytes}
use Rattle.sfdu_write.proofs.Written.{length-kind}
use Rattle.sfdu_write.proofs.write_label.Goals as goal

pub returns : goal.returns
unfolding label_bytes
returns c =
    let g = c.args in
    let k = length-kind g.kind in
    let l = length-bytes_of length_size (g.size - label_size) in
    let spelt = rw c.kind_tag.ensures at c.copy_in-3.ensures in
    let one = put_next g.out.now 0 authority _ version_class c.copy_in.ensures c.copy_in-2.ensures refl (omega arith) in
    let two = put_next g.out.now 0 (authority ++ version_class) _ (kind_bytes g.kind) one spelt refl (omega arith) in
    put_next g.out.now 0 (authority ++ version_class ++ kind_bytes g.kind) _ (bytes_of length_size (g.size - label_size)) two
    c.write_be.ensures (simp (length-append, length-kind) refl) (omega arith)
