-- Document 01, "Refusal numbers": the number of each refusal, in the order of the table. Refusals of document 02 stand where that
-- document puts them. Assumes nothing.
-- The manual, docs/INTERFACE.md: "The refusal table".
use Rattle.std.specs.Prelude.{ℕ}
use Rattle.refusals.specs.declared.Refusal.{Refusal}
use Rattle.refusals.specs.declared.Refusal.TheVariants.{
  TooShort,
  Authority,
  VersionClass,
  UnknownKind,
  LabelLength,
  Truncated,
  AggregationLabel,
  PrimaryLabel,
  SecondaryLabel,
  DataType,
  DataLength,
  WrongKind,
  FieldRange,
  SamplePair,
  SampleWords,
  SampleValue,
  SampleSpace,
  WriterInput,
  WriterSpace,
  ListFull,
  BufferSize,
  NotSheet,
  NoDesk,
  BadKey,
  FirstNumber,
  AlreadyEnrolled,
  LedgerFull,
  NoRow,
  DeskOpen,
  DeskClosed,
  OutsideRow,
  AlreadyTicked,
  NotTicked,
  Stale,
  RowOpen,
  MissingSpace,
  NotTrace,
  SeasonLength,
  KeyInTwoSheets,
  DayCount,
  TapeLengths,
  TapeLengthWord,
  TapeTime,
  TapeRate,
  TapeBlock,
  NotSettings,
  UnknownEdition,
  AlreadySet,
  SettingsFull,
  NoSetting,
  AnswerLength,
  TextSpace,
}

abbrev pub number_of : Refusal → ℕ
number_of TooShort = 1
number_of Authority = 2
number_of VersionClass = 3
number_of UnknownKind = 4
number_of LabelLength = 5
number_of Truncated = 6
number_of AggregationLabel = 7
number_of PrimaryLabel = 8
number_of SecondaryLabel = 9
number_of DataType = 10
number_of DataLength = 11
number_of WrongKind = 15
number_of FieldRange = 12
number_of SamplePair = 19
number_of SampleWords = 34
number_of SampleValue = 37
number_of SampleSpace = 35
number_of WriterInput = 14
number_of WriterSpace = 13
number_of ListFull = 16
number_of BufferSize = 17
number_of NotSheet = 20
number_of NoDesk = 21
number_of BadKey = 22
number_of FirstNumber = 32
number_of AlreadyEnrolled = 23
number_of LedgerFull = 24
number_of NoRow = 25
number_of DeskOpen = 26
number_of DeskClosed = 27
number_of OutsideRow = 28
number_of AlreadyTicked = 29
number_of NotTicked = 30
number_of Stale = 31
number_of RowOpen = 36
number_of MissingSpace = 60
number_of NotTrace = 40
number_of SeasonLength = 42
number_of KeyInTwoSheets = 41
number_of DayCount = 33
number_of TapeLengths = 50
number_of TapeLengthWord = 51
number_of TapeTime = 52
number_of TapeRate = 53
number_of TapeBlock = 54
number_of NotSettings = 43
number_of UnknownEdition = 44
number_of AlreadySet = 45
number_of SettingsFull = 46
number_of NoSetting = 47
number_of AnswerLength = 38
number_of TextSpace = 61
