-- Definitions of the instruction table: rows, forms, fields, spelling, and what instructions do.
pub mod Rows
pub mod Forms
pub mod ValidRowFields
pub mod Insts
pub mod NamedInstructions
pub mod Spelling
pub mod Arithmetic
pub mod Meanings
pub mod Writes
pub mod FromFields
pub mod InBounds
pub mod Relocations
