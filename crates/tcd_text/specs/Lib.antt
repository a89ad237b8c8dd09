-- Definitions of texts: lines, words and hex digits.
pub mod Lines
pub mod HexNumbers
