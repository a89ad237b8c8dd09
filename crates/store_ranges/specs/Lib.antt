-- Definitions of the accesses from the members of a value: their ranges, and what loads give.
pub mod Accesses
pub mod Laws
pub mod Loads
