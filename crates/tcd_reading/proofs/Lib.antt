pub mod Decided
pub mod EachReads
pub mod Endings
pub mod Told
pub mod Writes
pub mod EndingWords
