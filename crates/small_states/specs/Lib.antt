-- What compact values, states and exits stand for.
pub mod CompactForms
pub mod Incoming
pub mod Zeros
pub mod SmallValues
