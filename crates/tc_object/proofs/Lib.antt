pub mod ManyLaws
pub mod NameLaws
pub mod TurnLaws
pub mod UsedLaws
pub mod BackLaws
pub mod FromLaws
pub mod RecordLaws
