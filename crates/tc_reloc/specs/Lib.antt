-- Relocations: refusals, the bits that are written, and the address that the field reaches.
pub mod Refusals
pub mod Fields
pub mod Applied
pub mod ReachedAddresses
pub mod FillingLaws
