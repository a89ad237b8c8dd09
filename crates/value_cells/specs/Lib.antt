pub mod BesideCells
pub mod Cells
pub mod Rule16Growth
pub mod Keeping
pub mod Laws
pub mod CellListText
pub mod Safe
