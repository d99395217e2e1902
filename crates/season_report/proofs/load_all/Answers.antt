-- `season_report::load_all` meets its contract. The invariant: the files before this one are loaded, each into its slot. Assumes nothing.
use Prim.Native.Nat.{◌+◌, ◌*◌, ◌-◌, ◌≤◌}
use native.Mathlib.Omega.{arith}
use mathlib.Core.Path.{refl}
use lib.ListN.{drop, length-take}
use borrow.Author.Rules.{rules}
use Rattle.season_report_text.specs.Page.{name_size}
use Rattle.season_report.specs.inner.Places.{sheet_found}
use Rattle.season_report.proofs.Names.{short_none, short-more}
use Rattle.season_report.proofs.Sheets.{all-loaded, one_more}
use Rattle.season_report.proofs.load_all.Goals as goal

pub loop-i-init : goal.loop-i-init
loop-i-init c = (
  omega arith,
  refl,
  refl,
  record {
    named = record { few = omega arith; slots = omega arith; all = refl; short = short_none 16 };
    room = omega arith;
    space = omega arith;
    counted = refl;
    most = omega arith;
    slots = refl;
    counts = refl;
    held = λ j l. absurd (omega arith);
    each = λ j l. absurd (omega arith);
  },
)

pub returns-then-count-i : goal.returns-then-count-i
returns-then-count-i c = all-loaded c.loop-i.invariant.3 (λ _. c.if-count-i.true)

pub loop-i-preserved : goal.loop-i-preserved
loop-i-preserved c =
    let so_far = c.loop-i.invariant.3 in
    let named = so_far.named in
    let few = length-take (name_size * c.loop-i.i + name_size - name_size * c.loop-i.i) (drop (name_size * c.loop-i.i) c.loop-i.names) in
    let short : c.in_ok-file.file.size ≤ name_size = omega (arith, few, c.in_ok-file.ensures.0) in
    let taken = c.in_ok-file.file.taken in (
      omega arith,
      search rules,
      search rules,
      one_more so_far (omega arith) c.load.new.room c.load.new.slot _ (sheet_found taken.converted) c.in_ok-file.file.size taken.got _
          (search rules) (search rules) (omega arith) c.in_ok-file.ensures.1 refl
          (record {
            few = omega arith;
            slots = search rules;
            all = search rules;
            short = short-more c.loop-i.files.sizes c.loop-i.i c.in_ok-file.file.size named.short (omega (arith, named.all)) short;
          }),
    )

pub returns : goal.returns
returns c = all-loaded c.loop-i.invariant.3 (λ few. omega arith)
