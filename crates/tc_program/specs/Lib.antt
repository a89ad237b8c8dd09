-- Programs: sources that are assembled and linked to an image.
pub mod Addresses
pub mod Placed
pub mod PlacementLaws
