-- The sheets that the program loads from files. No contract can say what the system reads. These definitions name the bytes that the program holds
-- after it read, and say what it makes from them. Assumes nothing.
-- The manual, docs/INTERFACE.md: "The season's report".
use Rattle.std.specs.Prelude.{ℕ, ◌+◌, ◌*◌, ◌≤◌, ◌<◌, Bool, true, false, cond, List, ◌≡◌, eqb, length, get_or, take}
use Rattle.octets.specs.Octets.{part}
use Rattle.ledger_sheet.specs.Sheet.{sheet_size, right}
use Rattle.ledger_sheet.specs.Outcome.{Outcome}
use Rattle.ledger_convert.specs.Old as Old
use Rattle.ledger_convert.specs.Convert.{convert_on}
use Rattle.ledger_season.specs.Report.{most_sheets}
use Rattle.ledger_season.specs.Season.{sheet_at}
use Rattle.season_report_text.specs.declared.Files.{Files}
use Rattle.season_report.specs.declared.Loaded.{Loaded}

-- ---- one file, and the slot for its sheet

-- What a file was: a sheet, as it is or converted, or no sheet.
pub record Found : Type 0 where
  pub is_sheet : Bool
  pub converted : Bool

abbrev pub no_sheet : Found
no_sheet = record { is_sheet = false; converted = false }

-- What the converter leaves. It is a sheet if the converter accepts.
abbrev pub as_converted : Outcome → Found × List ℕ
as_converted o = (record { is_sheet = eqb (get_or o.0 0 0) 0; converted = true }, o.1)

-- The file itself, if it is as long as the slot. It is a sheet if it is right.
abbrev pub as_it_stands : (file slot : List ℕ) → Found × List ℕ
as_it_stands file slot = cond (eqb (length file) (length slot)) (record { is_sheet = right file; converted = false }, file) (no_sheet, slot)

-- What the program decides about the bytes of a file, and the slot after it. It converts a file that has the length of an old sheet.
unfoldable pub placing : (file slot : List ℕ) → Found × List ℕ
placing file slot = cond (eqb (length file) Old.sheet_size) (as_converted (convert_on file slot)) (as_it_stands file slot)

-- The room that a file is read into. It is longer than any sheet, so a file that fills it is no sheet.
abbrev pub room_size : ℕ
room_size = sheet_size + 1

-- A load reads `got` bytes of a file into the room. If it finds a sheet, the slot holds what the program made from these bytes.
abbrev pub Loads : (room : List ℕ) (got : ℕ) (old new : List ℕ) → Found → Type 0
Loads room got old new found = found.is_sheet ≡ true → (got ≤ length room) × ((found, new) ≡ placing (take got room) old)

-- ---- all files

-- The bytes that were read of file i: each file has a room of its own.
abbrev pub file_at : (rooms got : List ℕ) → ℕ → List ℕ
file_at rooms got i = part rooms (room_size * i) (get_or got i 0)

-- File i: the program keeps what it was, and slot i of the sheets holds what the program made from the bytes that it read, which is a right sheet.
pub record IsLoaded (rooms got sheets : List ℕ) (files : Files) (i : ℕ) : Type 0 where
  pub slot : List ℕ
  pub placed : (record { is_sheet = true; converted = get_or files.converted i false }, sheet_at sheets i) ≡ placing (file_at rooms got i) slot
  pub is_right : right (sheet_at sheets i) ≡ true

-- Each file that was loaded is as above, and `count` files were loaded.
pub record LoadsAll (count : ℕ) (rooms sheets : List ℕ) (r : Loaded) : Type 0 where
  pub each : (i : ℕ) → i < r.files.count → IsLoaded rooms r.got sheets r.files i
  pub whole : count ≤ most_sheets → r.files.count ≡ count
