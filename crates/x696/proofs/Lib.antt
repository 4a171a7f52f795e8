-- Laws: octets and numbers
pub mod OutcomeLaws
pub mod DigitsLaws
pub mod FewestLaws
pub mod SignedLaws
pub mod LengthLaws
pub mod VariableLaws
pub mod TagLaws
pub mod BitsLaws
-- Laws: kinds and values
pub mod ValueLaws
pub mod IntegerLaws
pub mod EnumeratedLaws
pub mod StringLaws
pub mod LeafLaws
-- Laws: the round trip of a message, and what follows from it
pub mod Complete
pub mod Sound
pub mod Unique
pub mod EncodeLaws
-- Laws: what every end of a reading keeps
pub mod Ends
pub mod Refusals
pub mod ListRefusals
pub mod Answering
pub mod AnswerLaws
pub mod LentLaws
pub mod ReplyLaws
-- Laws: value lists
pub mod WalkSound
pub mod WalkComplete
pub mod ListLaws
pub mod ContentsLaws
-- Laws: the table
pub mod TableTests
pub mod TableLaws
pub mod TableTags
pub mod TableRows
pub mod TableKinds
pub mod TableTypes
pub mod TableNesting
-- Laws: paths, and what an edit changes
pub mod ApartLaws
pub mod ChildLaws
pub mod ChildFits
pub mod PathLaws
pub mod PathTypes
pub mod ChildOctets
pub mod BeforeLaws
pub mod Locality
pub mod OrderLaws
pub mod SettingLaws
-- Laws: what the operations answer
pub mod AskedLaws
pub mod EditLaws
pub mod DecodeLaws
pub mod LongerRoadLaws
pub mod ComponentLaws
pub mod ReadingLaws
-- Laws: what the operations take and hand out
pub mod OperationLaws
pub mod RoundTrip
