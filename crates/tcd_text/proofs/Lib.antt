pub mod LineLaws
mod HexLaws
pub mod DigitLaws
