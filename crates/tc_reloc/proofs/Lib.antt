pub mod EachKind
pub mod FieldLaws
pub mod FilledRows
