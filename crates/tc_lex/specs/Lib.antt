-- The tokens of a line of a source.
pub mod Bytes
pub mod Cut
pub mod Texts
pub mod Numbers
pub mod Operands
pub mod Pieces
