-- The forms of input files, and the printed lines.
pub mod Forms
pub mod Lines
