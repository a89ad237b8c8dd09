pub mod Places
pub mod TableFacts
pub mod Made
pub mod Shaped
pub mod ShapeBounds
pub mod WordHalves
