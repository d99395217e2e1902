-- No two refusals have the same number. Assumes nothing.
use Prim.Native.Nat.{ℕ}
use native.Mathlib.Omega.{arith}
use mathlib.Core.Path.{◌≡◌, refl, sym, ap, ◌∙◌}
use mathlib.Core.Logic.{◌≢◌}
use mathlib.Core.List.{List, [], ◌∷◌}
use lib.ListN.{get_or}
use Rattle.refusals.specs.declared.Refusal.{Refusal}
use Rattle.refusals.specs.declared.Refusal.TheVariants.{
  TooShort,
  Authority,
  VersionClass,
  UnknownKind,
  LabelLength,
  Truncated,
  AggregationLabel,
  PrimaryLabel,
  SecondaryLabel,
  DataType,
  DataLength,
  WrongKind,
  FieldRange,
  SamplePair,
  SampleWords,
  SampleValue,
  SampleSpace,
  WriterInput,
  WriterSpace,
  ListFull,
  BufferSize,
  NotSheet,
  NoDesk,
  BadKey,
  FirstNumber,
  AlreadyEnrolled,
  LedgerFull,
  NoRow,
  DeskOpen,
  DeskClosed,
  OutsideRow,
  AlreadyTicked,
  NotTicked,
  Stale,
  RowOpen,
  MissingSpace,
  NotTrace,
  SeasonLength,
  KeyInTwoSheets,
  DayCount,
  TapeLengths,
  TapeLengthWord,
  TapeTime,
  TapeRate,
  TapeBlock,
  NotSettings,
  UnknownEdition,
  AlreadySet,
  SettingsFull,
  NoSetting,
  AnswerLength,
  TextSpace,
}
use Rattle.refusals.specs.Table.{number_of}

-- The refusals by number: entry n is the refusal with number n; if no refusal has that number, the first refusal.
back : List Refusal
back =
    TooShort ∷ TooShort ∷ Authority ∷ VersionClass ∷ UnknownKind ∷ LabelLength ∷ Truncated ∷ AggregationLabel ∷ PrimaryLabel
    ∷ SecondaryLabel ∷ DataType ∷ DataLength ∷ FieldRange ∷ WriterSpace ∷ WriterInput ∷ WrongKind ∷ ListFull ∷ BufferSize
    ∷ TooShort ∷ SamplePair ∷ NotSheet ∷ NoDesk ∷ BadKey ∷ AlreadyEnrolled ∷ LedgerFull ∷ NoRow ∷ DeskOpen ∷ DeskClosed
    ∷ OutsideRow ∷ AlreadyTicked ∷ NotTicked ∷ Stale ∷ FirstNumber ∷ DayCount ∷ SampleWords ∷ SampleSpace ∷ RowOpen ∷ SampleValue
    ∷ AnswerLength ∷ TooShort ∷ NotTrace ∷ KeyInTwoSheets ∷ SeasonLength ∷ NotSettings ∷ UnknownEdition ∷ AlreadySet
    ∷ SettingsFull ∷ NoSetting ∷ TooShort ∷ TooShort ∷ TapeLengths ∷ TapeLengthWord ∷ TapeTime ∷ TapeRate ∷ TapeBlock ∷ TooShort
    ∷ TooShort ∷ TooShort ∷ TooShort ∷ TooShort ∷ MissingSpace ∷ TextSpace ∷ []

refusal_of : ℕ → Refusal
refusal_of n = get_or back n TooShort

found : (r : Refusal) → refusal_of (number_of r) ≡ r
unfolding refusal_of back
found TooShort = refl
found Authority = refl
found VersionClass = refl
found UnknownKind = refl
found LabelLength = refl
found Truncated = refl
found AggregationLabel = refl
found PrimaryLabel = refl
found SecondaryLabel = refl
found DataType = refl
found DataLength = refl
found WrongKind = refl
found FieldRange = refl
found SamplePair = refl
found SampleWords = refl
found SampleValue = refl
found SampleSpace = refl
found WriterInput = refl
found WriterSpace = refl
found ListFull = refl
found BufferSize = refl
found NotSheet = refl
found NoDesk = refl
found BadKey = refl
found FirstNumber = refl
found AlreadyEnrolled = refl
found LedgerFull = refl
found NoRow = refl
found DeskOpen = refl
found DeskClosed = refl
found OutsideRow = refl
found AlreadyTicked = refl
found NotTicked = refl
found Stale = refl
found RowOpen = refl
found MissingSpace = refl
found NotTrace = refl
found SeasonLength = refl
found KeyInTwoSheets = refl
found DayCount = refl
found TapeLengths = refl
found TapeLengthWord = refl
found TapeTime = refl
found TapeRate = refl
found TapeBlock = refl
found NotSettings = refl
found UnknownEdition = refl
found AlreadySet = refl
found SettingsFull = refl
found NoSetting = refl
found AnswerLength = refl
found TextSpace = refl

pub number-injective : (r s : Refusal) → number_of r ≡ number_of s → r ≡ s
number-injective r s e = sym (found r) ∙ ap refusal_of e ∙ found s

-- No refusal has the number 0, which is that of an accepted call.
pub number-positive : (r : Refusal) → number_of r ≢ 0
unfolding refusal_of back
number-positive r e = let q : number_of r ≡ 1 = ap number_of (sym (found r) ∙ ap refusal_of e) in omega arith
