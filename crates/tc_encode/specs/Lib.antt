-- Definitions of decoding: the instruction that bytes begin with.
pub mod Decoding
pub mod DecodeLaws
pub mod WordSearch
