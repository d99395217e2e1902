-- The text of each refusal is found again at its number. Written by crates/refusals/table. Assumes nothing.
use Prim.Native.Nat.{ℕ}
use mathlib.Core.List.{List, [], ◌∷◌}
use mathlib.Core.Path.{◌≡◌, refl}
use lib.ListN.{get_or}
use Rattle.refusals.specs.Table.{number_of}
use Rattle.refusals.specs.declared.Refusal.{Refusal}
use Rattle.refusals.specs.declared.Refusal.TheVariants.{
  TooShort,
  Authority,
  VersionClass,
  UnknownKind,
  LabelLength,
  Truncated,
  AggregationLabel,
  PrimaryLabel,
  SecondaryLabel,
  DataType,
  DataLength,
  WrongKind,
  FieldRange,
  SamplePair,
  SampleWords,
  SampleValue,
  SampleSpace,
  WriterInput,
  WriterSpace,
  ListFull,
  BufferSize,
  NotSheet,
  NoDesk,
  BadKey,
  FirstNumber,
  AlreadyEnrolled,
  LedgerFull,
  NoRow,
  DeskOpen,
  DeskClosed,
  OutsideRow,
  AlreadyTicked,
  NotTicked,
  Stale,
  RowOpen,
  MissingSpace,
  NotTrace,
  SeasonLength,
  KeyInTwoSheets,
  DayCount,
  TapeLengths,
  TapeLengthWord,
  TapeTime,
  TapeRate,
  TapeBlock,
  NotSettings,
  UnknownEdition,
  AlreadySet,
  SettingsFull,
  NoSetting,
  AnswerLength,
  TextSpace,
}
use Rattle.refusal_words.specs.Texts.{table, text_of}
use Rattle.refusal_words.proofs.Same.{same, place_of}

pub found : (r : Refusal) → place_of (text_of (number_of r)) table ≡ number_of r
unfolding text_of table same place_of
found TooShort = refl
found Authority = refl
found VersionClass = refl
found UnknownKind = refl
found LabelLength = refl
found Truncated = refl
found AggregationLabel = refl
found PrimaryLabel = refl
found SecondaryLabel = refl
found DataType = refl
found DataLength = refl
found WrongKind = refl
found FieldRange = refl
found SamplePair = refl
found SampleWords = refl
found SampleValue = refl
found SampleSpace = refl
found WriterInput = refl
found WriterSpace = refl
found ListFull = refl
found BufferSize = refl
found NotSheet = refl
found NoDesk = refl
found BadKey = refl
found FirstNumber = refl
found AlreadyEnrolled = refl
found LedgerFull = refl
found NoRow = refl
found DeskOpen = refl
found DeskClosed = refl
found OutsideRow = refl
found AlreadyTicked = refl
found NotTicked = refl
found Stale = refl
found RowOpen = refl
found MissingSpace = refl
found NotTrace = refl
found SeasonLength = refl
found KeyInTwoSheets = refl
found DayCount = refl
found TapeLengths = refl
found TapeLengthWord = refl
found TapeTime = refl
found TapeRate = refl
found TapeBlock = refl
found NotSettings = refl
found UnknownEdition = refl
found AlreadySet = refl
found SettingsFull = refl
found NoSetting = refl
found AnswerLength = refl
found TextSpace = refl

-- Back from the numbers: entry n is the refusal with number n; where no refusal has the number, the first.
abbrev back : List Refusal
back =
    TooShort ∷ TooShort ∷ Authority ∷ VersionClass ∷ UnknownKind ∷ LabelLength ∷ Truncated ∷ AggregationLabel ∷ PrimaryLabel
    ∷ SecondaryLabel ∷ DataType ∷ DataLength ∷ FieldRange ∷ WriterSpace ∷ WriterInput ∷ WrongKind ∷ ListFull ∷ BufferSize
    ∷ TooShort ∷ SamplePair ∷ NotSheet ∷ NoDesk ∷ BadKey ∷ AlreadyEnrolled ∷ LedgerFull ∷ NoRow ∷ DeskOpen ∷ DeskClosed
    ∷ OutsideRow ∷ AlreadyTicked ∷ NotTicked ∷ Stale ∷ FirstNumber ∷ DayCount ∷ SampleWords ∷ SampleSpace ∷ RowOpen ∷ SampleValue
    ∷ AnswerLength ∷ TooShort ∷ NotTrace ∷ KeyInTwoSheets ∷ SeasonLength ∷ NotSettings ∷ UnknownEdition ∷ AlreadySet
    ∷ SettingsFull ∷ NoSetting ∷ TooShort ∷ TooShort ∷ TapeLengths ∷ TapeLengthWord ∷ TapeTime ∷ TapeRate ∷ TapeBlock ∷ TooShort
    ∷ TooShort ∷ TooShort ∷ TooShort ∷ TooShort ∷ MissingSpace ∷ TextSpace ∷ []

unfoldable pub refusal_of : ℕ → Refusal
refusal_of n = get_or back n TooShort
