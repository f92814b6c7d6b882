pub mod NumberLaws
pub mod RecordLaws
mod CursorLaws
pub mod FieldLaws
pub mod TestLaws
pub mod BodyLaws
pub mod LatticeLaws
pub mod GeneralLaws
pub mod ResultLaws
pub mod ReadLaws
pub mod RecordCounts
pub mod RestLaws
pub mod EndedLaws
mod WorkedRecords
pub mod SizeLaws
pub mod OneEnd
pub mod OneInstance
pub mod GivenInstance
