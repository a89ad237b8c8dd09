-- Statements: tokens, operands, the operands that rows want, and the row of a statement.
pub mod Names
pub mod Wants
pub mod RowFields
pub mod StatementRow
pub mod StatedRows
pub mod RowIndex
pub mod Items
pub mod DataValues
pub mod Lines
pub mod SourceViews
pub mod SourceRules
pub mod OperandForms
pub mod Filling
pub mod Displacements
