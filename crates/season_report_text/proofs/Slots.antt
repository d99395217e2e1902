-- Names in their slots, and lines put one behind the other. Assumes nothing.
use Prim.Native.Nat.{ℕ, ◌+◌, ◌*◌, ◌-◌, ◌≤◌, ◌<◌, ◌^◌}
use native.Mathlib.Numerals.{add-one}
use native.Mathlib.Omega.{arith}
use mathlib.Core.Bool.{false}
use mathlib.Core.List.{List, []}
use mathlib.Core.Path.{◌≡◌, refl}
use lib.ListN.{length, take, drop, get_or, get_or-eq_default}
use Rattle.octets.specs.Octets.{part}
use Rattle.octets.proofs.Laws.{length_part}
use Rattle.text.specs.Text.{Puts}
use Rattle.text.proofs.Laid.{nothing, then}
use Rattle.ledger_season.specs.Report.{most_sheets}
use Rattle.ledger_season.specs.declared.SeasonReport.{SeasonReport}
use Rattle.season_report_text.specs.declared.Files.{Files}
use Rattle.season_report_text.specs.Page.{name_size, numbers, name_of, rows_of, counts_of, line, lines_to, rows_to}
use Rattle.season_report_text.specs.inner.Room.{most_numbers, most_line, Named}

-- A part of a slice that the code lends.
pub part-there : (s : List ℕ) (a n : ℕ) → take (a + n - a) (drop a s) ≡ part s a n
unfolding part
part-there s a n = let e : a + n - a ≡ n = omega arith in rw e

pub name-none : (names : List ℕ) (files : Files) (i : ℕ) → Named names files → most_sheets ≤ i → name_of names files i ≡ []
unfolding name_of part
name-none names files i n h =
    let e : get_or files.sizes i 0 ≡ 0 = get_or-eq_default files.sizes 0 {n = i} (omega (arith, n.all)) in
    rw e

-- A name ends in its slot.
pub name-there : (names : List ℕ) (files : Files) (i : ℕ) → Named names files → i < most_sheets
    → length (part names (name_size * i) (get_or files.sizes i 0)) ≤ name_size
name-there names files i n h =
    let short = n.short i in
    let there : name_size * i + get_or files.sizes i 0 ≤ length names = omega (arith, n.slots) in
    rw (length_part names (name_size * i) (get_or files.sizes i 0) there) short

-- ---- the lines of the first i sheets

pub record LinesTo (old new : List ℕ) (at : ℕ) (names sheets : List ℕ) (files : Files) (r : SeasonReport) (end rows i : ℕ) : Type 0 where
  pub puts : Puts old new at end (lines_to names sheets files r i)
  pub rows_are : rows ≡ rows_to sheets i
  pub short : end ≤ at + most_line * i
  pub few : rows ≤ 2 ^ 32 * i

pub lines_none : (out : List ℕ) (at : ℕ) (names sheets : List ℕ) (files : Files) (r : SeasonReport)
    → LinesTo out out at names sheets files r at 0 0
unfolding lines_to rows_to
lines_none out at names sheets files r = record { puts = nothing out at; rows_are = refl; short = omega arith; few = omega arith }

module _ {old a b d : List ℕ} {at end rows i q e used : ℕ} (names sheets : List ℕ) (files : Files) (r : SeasonReport) where
  pub lines_more : LinesTo old a at names sheets files r end rows i → Puts a b end q (name_of names files i) → q ≤ end + name_size
      → used ≡ rows_of sheets i
      → used < 2 ^ 32
      → Puts b d q e (numbers (rows_of sheets i) (counts_of r i) (get_or files.converted i false))
      → e ≤ q + most_numbers
      → (e ≤ length a) × (e ≤ length old)
      → LinesTo old d at names sheets files r e (rows + used) (i + 1)
  unfolding line lines_to rows_to
  lines_more to name hq u few put he room =
      let one : Puts a d end e (line names sheets files r i) = then name put room.0 in
      rw (add-one i)
      record {
        puts = then to.puts one room.1;
        rows_are = rw (u, to.rows_are);
        short = omega (arith, to.short);
        few = omega (arith, to.few);
      }
