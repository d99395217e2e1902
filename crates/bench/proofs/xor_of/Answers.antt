-- `bench::xor_of` meets its contract. The invariant: the number is that of the numbers from i on. Assumes nothing.
use Prim.Native.Nat.{ℕ, suc, ◌-◌, ◌≤◌}
use native.Mathlib.Omega.{arith}
use mathlib.Core.List.{List}
use mathlib.Core.Path.{◌≡◌, sym, ap, ◌∙◌}
use lib.Bits.{bit_xor, xor_comm}
use lib.ListN.{length, get_or, drop}
use lib.Seq.{drop-cons, drop-length}
use Rattle.bench.specs.inner.Digest.{xor_of}
use Rattle.bench.proofs.xor_of.Goals as goal

none_left : (ns : List ℕ) → length ns ≡ 32 → 0 ≡ xor_of (drop 32 ns)
unfolding xor_of
none_left ns e = sym (ap xor_of (ap (λ (k : ℕ). drop k ns) (sym e) ∙ drop-length ns))

one_more : (ns : List ℕ) (i all : ℕ) → 1 ≤ i → i ≤ length ns → all ≡ xor_of (drop i ns) → bit_xor all (get_or ns (i - 1) 0) ≡ xor_of (drop (i - 1) ns)
unfolding xor_of
one_more ns i all b h e =
    let next : suc (i - 1) ≡ i = omega arith in
    xor_comm all (get_or ns (i - 1) 0)
    ∙ ap (bit_xor (get_or ns (i - 1) 0)) (e ∙ ap (λ (k : ℕ). xor_of (drop k ns)) (sym next))
    ∙ sym (ap xor_of (drop-cons ns (i - 1) 0 (omega arith)))

pub loop-i-init : goal.loop-i-init
loop-i-init c =
    let long : length c.args.numbers ≡ 32 = omega arith in
    (omega arith, long, none_left c.args.numbers long)

pub offset_bounds-numbers-i : goal.offset_bounds-numbers-i
offset_bounds-numbers-i c = omega (arith, c.loop-i.invariant.0)

pub bounds-numbers-i : goal.bounds-numbers-i
bounds-numbers-i c = omega (arith, c.loop-i.invariant.0)

pub loop-i-preserved : goal.loop-i-preserved
loop-i-preserved c =
    let inv = c.loop-i.invariant in
    (omega (arith, inv.0), inv.1, one_more c.args.numbers c.loop-i.i _ (omega arith) (omega (arith, inv.0, inv.1)) inv.2)

pub returns : goal.returns
returns c =
    let z : c.loop-i.i ≡ 0 = omega arith in
    c.loop-i.invariant.2 ∙ ap (λ (k : ℕ). xor_of (drop k c.args.numbers)) z
