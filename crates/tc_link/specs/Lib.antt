-- Layouts, and the image or refusal of linking objects.
pub mod Layouts
pub mod LayoutLines
pub mod LayoutFaults
pub mod LayoutDrafts
pub mod Placing
pub mod Relocated
pub mod Linked
pub mod Errors
pub mod GlobalSymbols
pub mod PlaceSizes
pub mod Shapes
pub mod Segments
pub mod Refusals
